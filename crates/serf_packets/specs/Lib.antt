pub mod Answers
pub mod Blocks
pub mod Encoded
pub mod Framing
pub mod Meant
pub mod Rows
pub mod States
pub mod Taken
