pub mod Adding
pub mod Outcomes
pub mod Using
