pub mod Values
pub mod Growth
pub mod Operands
pub mod Expansions
