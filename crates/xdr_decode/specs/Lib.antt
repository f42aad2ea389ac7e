pub mod After
pub mod Checking
pub mod Shown
pub mod Verdict
pub mod inner
