pub mod Arms
pub mod Rows
pub mod Rings
pub mod Kept
pub mod Searches
pub mod Laws
