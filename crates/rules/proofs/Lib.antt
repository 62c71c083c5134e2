pub mod ByEvent
pub mod Laws
