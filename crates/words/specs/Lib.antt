pub mod Words
pub mod Laws
