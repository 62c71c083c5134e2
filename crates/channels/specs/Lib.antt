pub mod References
pub mod Sound
pub mod Entry
pub mod Rules
pub mod Turns
pub mod Laws
pub mod Private
