pub mod Answer
pub mod Board
pub mod Bounds
