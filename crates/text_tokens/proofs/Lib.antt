pub mod Every
pub mod Languages
pub mod Lexing
pub mod Machines
pub mod Slices
pub mod Spelling
pub mod Unique
pub mod Whole
