pub mod Numbers
pub mod Grants
pub mod Groups
