pub mod Json
pub mod Object
