pub mod Runs
pub mod Names
pub mod Parts
pub mod Laws
