pub mod Made
pub mod Flights
