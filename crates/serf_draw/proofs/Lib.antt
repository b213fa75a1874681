pub mod Names
pub mod EscapeLemmas
pub mod ClockLemmas
pub mod CodedLemmas
pub mod HeadLemmas
pub mod RowLaws
pub mod FilledLemmas
