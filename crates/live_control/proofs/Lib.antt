pub mod Told
pub mod LineOutcomes
pub mod Serving
pub mod Passing
pub mod Stepping
pub mod Working
