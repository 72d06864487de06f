pub mod PortLists
pub mod ManyPlaces
