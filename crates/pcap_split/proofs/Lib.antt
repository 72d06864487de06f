pub mod Outputs
pub mod Goings
pub mod Wholes
