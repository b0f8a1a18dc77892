pub mod Fields
pub mod Faults
pub mod Legal
pub mod Scans
pub mod Places
pub mod Reading
