pub mod Lists
pub mod Within
