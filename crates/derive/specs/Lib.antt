-- What the derivation of three images answers.
pub mod Answers
pub mod Images
