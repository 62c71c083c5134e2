pub mod Damage
pub mod Acts
