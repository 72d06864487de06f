pub mod Turns
pub mod Begun
pub mod TakenTurns
pub mod Learning
