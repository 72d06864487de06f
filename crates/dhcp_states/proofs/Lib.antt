pub mod Counts
pub mod Askers
