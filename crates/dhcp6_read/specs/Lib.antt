pub mod Options
pub mod Levels
pub mod Message
pub mod DhcpOf
pub mod Steps
