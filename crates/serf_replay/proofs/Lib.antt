pub mod KeyLaws
pub mod Names
pub mod RecordLaws
pub mod TallyLaws
pub mod TextLaws
