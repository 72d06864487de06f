pub mod Apart
pub mod Rising
pub mod Outs
pub mod Parts
pub mod Keeps
pub mod Ends
pub mod Loops
