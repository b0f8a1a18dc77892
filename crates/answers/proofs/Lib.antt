pub mod Adding
pub mod Texts
pub mod Apart
pub mod Answering
pub mod Told
