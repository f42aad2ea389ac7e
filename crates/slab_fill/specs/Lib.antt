pub mod Spots
pub mod Elements
