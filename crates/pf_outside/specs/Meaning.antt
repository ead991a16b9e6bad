pub mod StoreCalls
pub mod Formats
pub mod Tasks
pub mod Reports
