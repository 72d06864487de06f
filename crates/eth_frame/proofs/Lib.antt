pub mod TagIs
pub mod Untagged
pub mod TaggedAgain
