pub mod ProbeFrame
pub mod ProbeReading
