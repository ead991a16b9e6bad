pub mod StoreCalls
pub mod Telling
pub mod Tasks
