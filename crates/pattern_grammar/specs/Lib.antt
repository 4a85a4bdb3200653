pub mod NumberPart
pub mod Grammar
pub mod Reserved
pub mod Meaning
pub mod Verdict
pub mod Bounds
pub mod Texts
