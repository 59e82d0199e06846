-- Laws that both passes use, and of the sets in their list.
pub mod HighestEmpty
pub mod Rows
pub mod Sets
pub mod Standing
pub mod Written
