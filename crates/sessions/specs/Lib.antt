pub mod Rooms
pub mod Effects
pub mod Script
pub mod Sessions
pub mod Laws
