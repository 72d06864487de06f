pub mod ProbeOctets
pub mod ProbeReading
