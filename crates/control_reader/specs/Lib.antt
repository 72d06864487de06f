pub mod Heard
pub mod LiveLines
pub mod Reading
pub mod Rows
pub mod Progress
pub mod Readers
pub mod Answered
