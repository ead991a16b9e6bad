pub mod MinOfTaps
pub mod Selected
pub mod Targets
