pub mod Room
pub mod Syntax
pub mod Held
pub mod Stretch
