pub mod OutputParts
pub mod Writing
pub mod Sending
