pub mod Columns
pub mod Lists
pub mod Promised
pub mod Within
