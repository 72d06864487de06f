pub mod Told
pub mod InputTurns
pub mod Judging
