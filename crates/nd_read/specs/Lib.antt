pub mod InPrefix
pub mod Messages
pub mod NdOf
pub mod OptionRow
pub mod Options
pub mod Tests
