pub mod Bindings
pub mod Places
pub mod Kept
pub mod Counts
