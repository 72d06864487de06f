pub mod InternetChecksum
pub mod WideSum
