pub mod Held
pub mod Machine
pub mod Standing
pub mod States
pub mod Words
