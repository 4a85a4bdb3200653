pub mod Affixes
pub mod Firsts
