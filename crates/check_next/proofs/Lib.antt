pub mod Climbing
pub mod Tabling
