pub mod Frames
pub mod Laid
pub mod Refused
pub mod Tests
pub mod Trips
pub mod Written
