pub mod Pieces
pub mod Fronts
pub mod Giving
pub mod Reading
pub mod Lines
pub mod FewEnds
pub mod Telling
