pub mod Names
pub mod CommentBack
pub mod CutLemmas
pub mod DraftLemmas
