-- Laws of the set pass.
pub mod Promised
pub mod SetPass
