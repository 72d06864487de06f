pub mod Configured
pub mod Plans
pub mod WordLists
