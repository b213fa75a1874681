pub mod KeptLaws
pub mod Names
pub mod PlaceLaws
pub mod RepeatLaws
pub mod TextLaws
