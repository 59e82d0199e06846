-- What the check promises, and the starred trial sheets.
pub mod Judged
pub mod Parts
pub mod Sheets
pub mod Refusals
