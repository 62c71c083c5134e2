pub mod Signed
pub mod Laws
pub mod Sheet
