pub mod Check
pub mod Parity
pub mod Values
