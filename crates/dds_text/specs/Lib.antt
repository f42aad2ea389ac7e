pub mod After
pub mod Length
pub mod Reading
pub mod inner
