pub mod Left
pub mod Settled
