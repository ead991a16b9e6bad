pub mod Rows
pub mod Neon
