pub mod Faults
pub mod Setting
