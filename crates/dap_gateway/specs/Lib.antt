pub mod Pairs
pub mod Given
pub mod Upstream
pub mod Turns
pub mod Backed
pub mod Steady
