pub mod Places
pub mod Around
pub mod Keys
pub mod Recounts
pub mod KeptChanges
pub mod Tables
pub mod Holders
