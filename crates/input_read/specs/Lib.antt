pub mod Readers
pub mod Inputs
