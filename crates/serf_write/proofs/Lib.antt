pub mod Names
pub mod RunLaws
