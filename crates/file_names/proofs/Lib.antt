mod Segments
pub mod Words
