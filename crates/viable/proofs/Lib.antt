pub mod Decimals
pub mod Digits
pub mod Pieces
pub mod Runs
pub mod Standing
pub mod Tests
pub mod Words
pub mod Escaped
