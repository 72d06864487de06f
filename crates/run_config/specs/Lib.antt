pub mod Words
pub mod Configs
