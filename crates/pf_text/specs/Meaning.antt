pub mod Answers
pub mod FirstFaults
pub mod Words
pub mod Lines
