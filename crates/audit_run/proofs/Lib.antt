mod Waiting
mod Passing
pub mod Watching
pub mod Leading
