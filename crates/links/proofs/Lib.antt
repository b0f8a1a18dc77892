pub mod Stepping
pub mod Making
pub mod Going
