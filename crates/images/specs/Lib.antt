-- What is asked of images that were tested, and what they hold.
pub mod Formed
pub mod Held
