pub mod Whole
pub mod Fraction
pub mod Laws
pub mod Sheet
