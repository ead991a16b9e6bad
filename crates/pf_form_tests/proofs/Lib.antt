pub mod TestedLaws
pub mod TestedCodeLaws
