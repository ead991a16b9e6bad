pub mod Pieces
pub mod Parsing
pub mod Reading
pub mod Building
