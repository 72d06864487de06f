pub mod Lists
pub mod Maps
pub mod Steps
pub mod Seats
pub mod Holds
pub mod Deals
pub mod Tallied
