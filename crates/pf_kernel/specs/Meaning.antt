pub mod Kernels
pub mod Lines
pub mod Texts
