pub mod Faults
pub mod Meaning
pub mod Fates
pub mod Fading
pub mod Outcome
pub mod Draining
