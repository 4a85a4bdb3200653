pub mod Record
pub mod Base
