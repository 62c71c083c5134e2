pub mod Finite
pub mod Every
pub mod Sets
pub mod Numbers
pub mod Row
pub mod Events
pub mod Laws
pub mod Private
