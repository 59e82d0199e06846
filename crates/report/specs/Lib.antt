-- What the program of document 01 prints.
pub mod Putting
pub mod Text
