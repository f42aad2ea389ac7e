pub mod Budgets
pub mod Folder
pub mod Waits
