pub mod Kinds
pub mod RowLaws
pub mod ControlShapes
pub mod OperandLaws
pub mod VectorLines
pub mod ControlLines
pub mod LineLaws
pub mod TableLaws
