pub mod Reached
pub mod Words
