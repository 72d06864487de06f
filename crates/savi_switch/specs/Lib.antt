pub mod RealWorlds
pub mod Openings
