pub mod Fronts
pub mod Fitting
pub mod Sizing
pub mod Example
