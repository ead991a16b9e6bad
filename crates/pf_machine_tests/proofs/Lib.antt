pub mod Memories
pub mod RowBlocks
