pub mod Choice
pub mod Lists
pub mod Digits
pub mod Split
