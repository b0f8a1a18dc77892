pub mod Addresses
pub mod Flights
