pub mod CheckLines
pub mod RunLines
pub mod Sums
