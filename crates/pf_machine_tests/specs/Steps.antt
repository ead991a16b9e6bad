pub mod RowBlocks
