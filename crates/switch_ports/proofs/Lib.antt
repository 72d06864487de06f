pub mod Rising
pub mod Named
pub mod Opens
pub mod Keeps
pub mod LiveOpens
pub mod LiveKeeps
