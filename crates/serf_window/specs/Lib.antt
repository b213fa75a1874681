pub mod Window
pub mod Laws
pub mod Texts
pub mod Slots
pub mod OneSlot
pub mod Queries
pub mod Recall
