pub mod Model
pub mod Sending
pub mod Finding
pub mod Hearing
pub mod Calls
pub mod Ends
pub mod Steps
