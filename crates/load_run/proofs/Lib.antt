pub mod Unstopped
pub mod Holding
pub mod Inputs
pub mod Roomy
