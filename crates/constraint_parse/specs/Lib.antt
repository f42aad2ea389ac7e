pub mod Classes
pub mod Language
pub mod Refusals
pub mod Slabs
pub mod Values
pub mod inner
