pub mod Alikes
pub mod Sweeping
pub mod Levelling
