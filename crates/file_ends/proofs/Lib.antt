pub mod Apart
pub mod Reasons
