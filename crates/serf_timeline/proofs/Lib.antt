pub mod Names
pub mod EscapeLemmas
