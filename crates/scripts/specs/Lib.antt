pub mod Commands
pub mod Lines
pub mod Tables
pub mod Laws
