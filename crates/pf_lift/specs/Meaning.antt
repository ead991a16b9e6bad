pub mod Rewriting
pub mod Lifted
pub mod Kernels
