pub mod Marks
pub mod KeptItems
pub mod Gathered
pub mod States
pub mod Stored
