pub mod Bodies
pub mod FirstWords
pub mod InMemory
