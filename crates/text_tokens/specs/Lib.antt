pub mod Kinds
pub mod Languages
pub mod Tokens
pub mod inner
