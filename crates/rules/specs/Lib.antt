pub mod Steps
pub mod Turns
pub mod Sends
pub mod Readings
pub mod Calls
pub mod Laws
pub mod Private
