pub mod Links
pub mod History
pub mod Truth
pub mod Rounds
pub mod Strings
