pub mod PassedFrames
pub mod Violations
pub mod Printed
pub mod Auditing
pub mod Audited
