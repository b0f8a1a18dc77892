pub mod Strings
pub mod Splitting
pub mod Back
pub mod Unspelled
