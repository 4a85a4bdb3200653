pub mod Walks
pub mod Told
pub mod Spellings
pub mod Without
