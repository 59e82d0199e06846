-- What the calls under a C name give.
pub mod Calls
