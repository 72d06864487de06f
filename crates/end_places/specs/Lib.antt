pub mod Spots
pub mod NamedSpots
pub mod PortPlaces
pub mod ManySpots
