pub mod Shapes
pub mod Equality
pub mod Values
pub mod Parts
pub mod FormTexts
pub mod Axioms
