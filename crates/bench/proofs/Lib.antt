pub mod SoundParts
pub mod Independent
pub mod Laws
pub mod StartLaws
