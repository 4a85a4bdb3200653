pub mod Cuts
pub mod Jobs
