pub mod Lines
pub mod Bounds
pub mod Counting
pub mod Counted
