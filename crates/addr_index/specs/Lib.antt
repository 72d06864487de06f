pub mod Indexes
pub mod Ways
pub mod Homes
pub mod Places
