pub mod Bads
