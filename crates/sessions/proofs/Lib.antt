pub mod Rooms
pub mod Lines
pub mod Clicks
pub mod Kept
pub mod Areas
pub mod Laws
