pub mod Layout
pub mod Text
pub mod Plain
