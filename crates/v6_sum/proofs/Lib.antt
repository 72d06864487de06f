pub mod Checksums
pub mod FoldedSums
pub mod OnesSums
pub mod WordLists
