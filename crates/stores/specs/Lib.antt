pub mod Texts
pub mod Held
