pub mod Sizes
pub mod Going
pub mod Ends
pub mod Unique
pub mod Messages
pub mod Whole
