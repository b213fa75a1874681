pub mod CutLemmas
pub mod LineLaws
pub mod Names
pub mod NumberLemmas
pub mod PrintableLaws
pub mod SlotLemmas
pub mod StreamLaws
pub mod TemplateLemmas
