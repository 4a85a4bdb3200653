pub mod Entries
pub mod Spelled
