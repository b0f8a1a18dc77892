pub mod Printed
pub mod Room
pub mod Laws
pub mod Answered
