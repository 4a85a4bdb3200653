pub mod Spellings
pub mod Pieces
pub mod Skips
