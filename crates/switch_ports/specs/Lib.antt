pub mod Named
pub mod Openings
pub mod Live
