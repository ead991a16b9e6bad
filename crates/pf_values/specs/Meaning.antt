pub mod Operators
pub mod Terms
pub mod Kernels
pub mod Reach
pub mod NamedTerms
pub mod Spellings
pub mod Limits
pub mod Small
