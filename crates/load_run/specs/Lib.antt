pub mod LoadHistory
pub mod LoadEnds
