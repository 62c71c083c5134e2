pub mod Joins
pub mod Places
pub mod Laws
pub mod Poster
