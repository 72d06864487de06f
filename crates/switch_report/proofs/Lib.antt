pub mod Fronts
pub mod ToldLines
