-- Laws of the walk over the images, and what the contract of `derive` promises.
pub mod Promised
pub mod Walking
