pub mod Faults
pub mod Needs
pub mod Folds
pub mod Rows
pub mod AxiomSteps
