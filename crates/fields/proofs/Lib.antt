pub mod Formed
pub mod Lists
pub mod Promised
pub mod Searching
