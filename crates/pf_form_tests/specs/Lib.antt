pub mod TestedTerms
pub mod TestedCode
