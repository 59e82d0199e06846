-- The grammar rule of document 01, with no word of bytes.
pub mod Choice
pub mod Derivation
pub mod Grammar
pub mod Interval
pub mod Limits
pub mod NoColumn
pub mod Numbers
pub mod Refusals
pub mod Relation
pub mod Stored
pub mod Tree
pub mod Verdict
pub mod Walk
