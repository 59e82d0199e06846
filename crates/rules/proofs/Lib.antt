-- What is proved of the grammar rule: one tree at most, what each answer of the walk means, what the relations leave, that the computed sets and numbers are the sets and the least indentations.
pub mod Complete
pub mod Least
pub mod Lists
pub mod Meaning
pub mod NoColumn
pub mod OneLayout
pub mod Prefix
pub mod Refusals
pub mod Relations
pub mod Sets
pub mod Shapes
pub mod Sound
pub mod Stays
pub mod Steps
pub mod Subtrees
pub mod Unique
pub mod Verdicts
