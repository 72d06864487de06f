pub mod Armed
pub mod Renewed
