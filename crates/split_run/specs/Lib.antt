pub mod Names
pub mod CountsLines
pub mod Runs
pub mod Steps
