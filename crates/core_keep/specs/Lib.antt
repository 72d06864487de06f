pub mod PortNumbers
pub mod RowCodes
pub mod PlanCodes
pub mod BaseCodes
pub mod Pasts
pub mod Seen
