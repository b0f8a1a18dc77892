pub mod Countings
pub mod Empty
pub mod Founds
pub mod Planning
pub mod Refusing
pub mod Staging
