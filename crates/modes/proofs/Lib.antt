pub mod Finite
pub mod Every
pub mod ByNumber
pub mod Laws
pub mod Joins
