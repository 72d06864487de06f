pub mod Bases
pub mod Columns
pub mod Orders
pub mod StateLines
pub mod BaseLines
pub mod Parts
pub mod Kept
