pub mod Same
pub mod Parts
pub mod Put
pub mod WholeLaws
pub mod Kept
pub mod Stored
