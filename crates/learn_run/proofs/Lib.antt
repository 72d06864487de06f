pub mod Taking
pub mod Telling
pub mod TurnTaken
pub mod Measuring
pub mod Hearing
pub mod Undone
pub mod Running
