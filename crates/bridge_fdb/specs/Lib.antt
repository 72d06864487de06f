pub mod Stations
pub mod Learning
pub mod Limits
pub mod Laws
pub mod Kept
pub mod Places
pub mod Full
