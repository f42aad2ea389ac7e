pub mod Giving
pub mod Judging
pub mod Places
pub mod Stopping
