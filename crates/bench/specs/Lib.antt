pub mod Counts
pub mod Acting
pub mod Holds
pub mod Independent
pub mod Sound
pub mod Starts
pub mod Laws
