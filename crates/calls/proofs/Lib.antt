pub mod Lamps
pub mod Accepted
