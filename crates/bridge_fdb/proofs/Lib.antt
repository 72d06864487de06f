pub mod Rising
pub mod Numbers
pub mod Parts
pub mod Within
pub mod Without
pub mod Slots
pub mod Counting
pub mod Fullness
