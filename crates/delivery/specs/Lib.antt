-- How a delivery is cut.
pub mod Delivery
