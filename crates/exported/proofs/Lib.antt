-- What is proved of the calls.
pub mod Promised
