pub mod Served
pub mod Links
pub mod Laws
pub mod Turns
