pub mod Draws
pub mod Frames
pub mod Sendings
pub mod Captures
pub mod Writing
pub mod LoadPlan
pub mod Inputs
