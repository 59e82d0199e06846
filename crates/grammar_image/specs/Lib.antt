-- What a well-formed grammar image is, and what it holds.
pub mod GrammarImage
pub mod Headers
pub mod Kinds
