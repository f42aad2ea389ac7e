pub mod Saying
pub mod inner
