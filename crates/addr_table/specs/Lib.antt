pub mod Dues
pub mod Addresses
pub mod Outcomes
pub mod Gives
pub mod Turns
pub mod OneTurn
pub mod Armed
