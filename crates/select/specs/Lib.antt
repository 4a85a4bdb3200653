pub mod Select
pub mod Words
