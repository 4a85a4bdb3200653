pub mod Moves
pub mod Fields
