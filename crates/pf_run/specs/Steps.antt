pub mod Rows
pub mod Pixels
