pub mod Replying
pub mod States
pub mod LineTurns
pub mod Sides
