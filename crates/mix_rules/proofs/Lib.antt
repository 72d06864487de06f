pub mod TableLemmas
pub mod EventLemmas
pub mod HolderLemmas
pub mod AgeingLemmas
pub mod EndLemmas
pub mod RunLemmas
pub mod FirstComeLemmas
