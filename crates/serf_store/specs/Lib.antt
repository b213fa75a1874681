pub mod Errors
pub mod MemoryFile
pub mod Paths
pub mod Store
pub mod SystemFile
pub mod TextFile
