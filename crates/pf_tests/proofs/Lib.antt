pub mod NoNames
pub mod Formed
