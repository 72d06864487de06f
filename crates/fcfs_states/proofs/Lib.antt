pub mod TableLemmas
pub mod AgeingLemmas
pub mod RowLemmas
pub mod AgesLemmas
pub mod AgedSoFar
pub mod RunLemmas
