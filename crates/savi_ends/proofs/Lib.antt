pub mod Octets
pub mod Buffers
pub mod FaultCounts
pub mod FirstPlace
pub mod Keys
pub mod OnlyOut
pub mod Options
pub mod Ready
