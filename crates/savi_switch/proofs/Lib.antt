pub mod Alone
pub mod Ready
