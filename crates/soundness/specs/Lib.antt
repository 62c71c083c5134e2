pub mod Kept
pub mod Feed
pub mod Lowest
