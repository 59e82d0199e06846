-- What is proved of a delivery.
pub mod Promised
