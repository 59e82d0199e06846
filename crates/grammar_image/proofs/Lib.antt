mod Bounds
mod Over
pub mod Promised
mod Ranges
pub mod Within
