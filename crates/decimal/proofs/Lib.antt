pub mod Choices
pub mod Runs
pub mod Values
pub mod Powers
pub mod Zeros
pub mod Figured
pub mod Splits
pub mod Unique
