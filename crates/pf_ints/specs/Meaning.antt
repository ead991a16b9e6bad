pub mod Whole
pub mod Lanes
pub mod Ranges
pub mod Images
pub mod Targets
