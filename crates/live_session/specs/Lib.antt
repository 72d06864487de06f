pub mod LiveOutputs
pub mod Ticking
pub mod LiveRows
pub mod LiveSession
pub mod Standing
