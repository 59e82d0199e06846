-- What the images of document 01 share: fields, and the first that breaks its rule.
pub mod Answers
pub mod Fields
pub mod Images
