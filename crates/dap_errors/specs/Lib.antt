pub mod Causes
pub mod Object
pub mod Printed
pub mod Reading
pub mod Refusals
pub mod inner
