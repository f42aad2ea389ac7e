pub mod Responses
pub mod Refusals
pub mod Walked
pub mod Bodies
pub mod inner
pub mod Laws
