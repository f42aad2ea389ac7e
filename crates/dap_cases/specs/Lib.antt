pub mod Cases
pub mod Endings
pub mod Files
pub mod Prefixed
pub mod Reports
pub mod Runs
pub mod Verdicts
pub mod inner
