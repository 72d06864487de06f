pub mod Gaps
pub mod Entries
pub mod Ways
pub mod Filling
pub mod Closing
pub mod Table
