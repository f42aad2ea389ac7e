pub mod Reading
pub mod Answering
pub mod Sound
pub mod Told
pub mod Shapes
pub mod Unread
