pub mod Writing
pub mod Plain
pub mod Spelling
