pub mod Inputs
pub mod Rows
pub mod Progress
pub mod Readers
pub mod Judging
