pub mod Order
pub mod Sides
