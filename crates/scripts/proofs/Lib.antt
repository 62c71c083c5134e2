pub mod Events
pub mod Lines
pub mod Tables
pub mod Laws
