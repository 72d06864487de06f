pub mod Standing
pub mod Starts
pub mod Stepping
pub mod Following
pub mod Commands
