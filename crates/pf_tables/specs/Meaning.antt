pub mod Registers
pub mod Entries
pub mod Sets
pub mod Instructions
pub mod Effects
pub mod Lines
pub mod Tables
pub mod Laws
