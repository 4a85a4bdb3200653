pub mod Digits
pub mod Claims
pub mod Text
pub mod Clean
pub mod Base
