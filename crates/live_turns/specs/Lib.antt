pub mod Seats
pub mod TurnKinds
pub mod Turned
pub mod Wakes
pub mod Rounds
