pub mod Packet
pub mod Kinds
pub mod Headers
pub mod Outcome
pub mod Places
pub mod ChainOf
