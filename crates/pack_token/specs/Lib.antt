pub mod Spelling
pub mod Token
