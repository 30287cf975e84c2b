pub mod Processors
pub mod MachineObjects
