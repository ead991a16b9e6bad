pub mod Scratch
pub mod BlockRows
