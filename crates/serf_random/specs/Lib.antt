pub mod Comment
pub mod Common
pub mod Cut
pub mod Draft
pub mod Kind
