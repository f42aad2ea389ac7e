pub mod ToldBack
pub mod FirstNamed
pub mod Fronts
pub mod Passing
pub mod Telling
pub mod Transfers
