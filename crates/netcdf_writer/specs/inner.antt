pub mod Undoing
pub mod Tables
pub mod Planned
pub mod Printing
pub mod Parts
pub mod Writing
pub mod Judged
pub mod Reading
