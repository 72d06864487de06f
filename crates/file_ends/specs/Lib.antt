pub mod Opened
pub mod Ends
