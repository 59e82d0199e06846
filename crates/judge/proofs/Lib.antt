-- What is proved of the check.
pub mod Demands
pub mod Derivations
pub mod Given
pub mod Meaning
pub mod Outcomes
pub mod Passed
pub mod Sheets
pub mod Tests
