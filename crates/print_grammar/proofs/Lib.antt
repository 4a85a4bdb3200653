pub mod Shown
pub mod Groups
pub mod Cuts
pub mod Affixes
pub mod Texts
pub mod Theorems
pub mod Base
