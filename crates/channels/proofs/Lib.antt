pub mod Read
pub mod ByLaw
pub mod Clicks
pub mod Sound
pub mod Rounded
pub mod Named
