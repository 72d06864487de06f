pub mod Records
pub mod Streams
pub mod Readers
pub mod ReaderStates
pub mod Takings
pub mod Calls
