pub mod Ranges
pub mod Readings
pub mod Sound
pub mod Wholes
pub mod Private
