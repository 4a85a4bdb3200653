pub mod Limits
pub mod Grammar
pub mod Reading
pub mod Admitted
pub mod Table
pub mod Alike
