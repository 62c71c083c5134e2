pub mod Computing
pub mod Sheet
pub mod Reached
pub mod OneCall
pub mod Shows
pub mod Lists
pub mod Claimed
pub mod Independent
