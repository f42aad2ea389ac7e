pub mod Characters
pub mod Numerals
pub mod Prefix
pub mod Quoted
pub mod Runs
pub mod inner
