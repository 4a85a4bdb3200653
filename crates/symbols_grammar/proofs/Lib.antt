pub mod Told
pub mod Records
pub mod Base
