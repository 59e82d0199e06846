pub mod Rows
pub mod Within
