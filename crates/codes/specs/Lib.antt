pub mod Codes
pub mod Numbers
pub mod Laws
pub mod Poster
pub mod Private
