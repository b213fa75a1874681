pub mod Acts
pub mod View
pub mod Turns
pub mod Roster
