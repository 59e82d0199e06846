-- Laws of the indentation pass.
pub mod IndentationPass
pub mod LeastNumbers
pub mod Promised
