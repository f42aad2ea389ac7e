pub mod File
pub mod Header
pub mod Laws
pub mod Asked
pub mod Datasets
pub mod Numbers
pub mod Reply
