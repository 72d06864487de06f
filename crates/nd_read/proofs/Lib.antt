pub mod InPrefix
pub mod OptionLists
pub mod OptionRow
pub mod ReadingOf
pub mod Readings
pub mod TestOrder
