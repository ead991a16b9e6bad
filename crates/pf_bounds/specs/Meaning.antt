pub mod TermBounds
pub mod KeptBounds
