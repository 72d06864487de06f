pub mod RowsRead
pub mod PlansApart
pub mod BasesApart
pub mod PastsRead
pub mod Goings
