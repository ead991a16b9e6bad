pub mod Sorted
pub mod Sizes
pub mod Bounds
