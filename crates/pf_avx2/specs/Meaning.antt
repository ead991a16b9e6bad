pub mod Rows
pub mod Avx2
