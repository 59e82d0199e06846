-- What a well-formed token image is, and what it holds.
pub mod TokenImage
