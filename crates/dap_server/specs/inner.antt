pub mod Opening
pub mod Marking
pub mod Preparing
pub mod Serving
pub mod Members
pub mod Joining
