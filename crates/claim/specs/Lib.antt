pub mod Lists
pub mod Claim
pub mod Independent
pub mod Sheet
pub mod Reached
