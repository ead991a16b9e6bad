pub mod Words
pub mod Pgm
pub mod Faults
pub mod Counts
pub mod Outside
