pub mod Fronts
pub mod Expressions
pub mod Readings
pub mod Reads
pub mod Printable
