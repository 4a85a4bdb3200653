pub mod Verdicts
pub mod Answers
pub mod Comes
pub mod Packs
