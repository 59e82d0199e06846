pub mod Packing
pub mod Refused
pub mod RoundTrip
