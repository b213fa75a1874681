pub mod SlotLemmas
pub mod WindowLemmas
pub mod AllSlots
pub mod WindowLaws
pub mod RecallLaws
pub mod RecallSteps
pub mod Names
