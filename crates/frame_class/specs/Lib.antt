pub mod Classes
pub mod ClassOf
pub mod Reading
pub mod Seen
