pub mod Numbers
pub mod Sorts
pub mod Sides
pub mod Counts
pub mod Rules
pub mod Files
pub mod Shifts
pub mod Instances
