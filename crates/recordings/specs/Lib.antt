pub mod Recorded
pub mod Steps
pub mod Split
pub mod Laws
