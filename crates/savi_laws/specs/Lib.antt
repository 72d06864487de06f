pub mod Rebuilt
pub mod Answered
pub mod Addresses
pub mod Raised
pub mod Budgets
pub mod LateTicks
pub mod Progress
pub mod Refusals
