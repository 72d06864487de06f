pub mod PortSources
pub mod PortSinks
pub mod MachineClocks
