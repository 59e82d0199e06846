-- What the two packers of document 01 write and answer.
pub mod Answers
pub mod Packing
