pub mod Narrowing
pub mod WholeTypes
pub mod TermLaws
pub mod KeptLaws
pub mod PlaceLaws
