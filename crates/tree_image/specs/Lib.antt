-- What a well-formed tree image is, and what it holds.
pub mod TreeImage
