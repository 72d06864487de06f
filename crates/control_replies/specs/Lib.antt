pub mod Replies
pub mod Bindings
pub mod Shows
pub mod Counters
pub mod Counting
