pub mod Entered
pub mod Judged
