pub mod Ends
pub mod Again
