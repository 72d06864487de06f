pub mod Rows
pub mod Tellings
pub mod Holders
pub mod Heads
pub mod Readings
