pub mod Arithmetic
pub mod Words
