pub mod Trying
pub mod Trimming
