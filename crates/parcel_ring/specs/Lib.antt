pub mod Handed
pub mod Parcels
pub mod Lent
pub mod Sides
