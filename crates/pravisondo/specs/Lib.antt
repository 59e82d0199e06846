-- What reading gives.
pub mod Input
