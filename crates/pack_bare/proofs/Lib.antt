pub mod Tokens
pub mod Bares
