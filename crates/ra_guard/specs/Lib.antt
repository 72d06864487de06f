pub mod Guard
pub mod GuardOf
pub mod Parts
pub mod Refused
