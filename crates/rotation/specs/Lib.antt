pub mod Rotation
pub mod Laws
pub mod Sheet
