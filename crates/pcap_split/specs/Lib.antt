pub mod Splits
pub mod Counts
pub mod Going
pub mod Steps
pub mod States
pub mod Wholes
