pub mod Scans
pub mod Firsts
