pub mod Rows
pub mod Hvx
