pub mod Sides
pub mod Laws
