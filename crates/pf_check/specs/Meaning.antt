pub mod Orders
pub mod Faults
pub mod Checks
pub mod Citing
pub mod Replays
pub mod Accepts
pub mod Files
