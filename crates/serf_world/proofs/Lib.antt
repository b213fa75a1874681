pub mod TurnLaws
pub mod MergeLaws
pub mod ResultLaws
pub mod RosterLaws
pub mod DoneLaws
pub mod SizeLaws
pub mod Names
