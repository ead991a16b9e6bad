pub mod Sets
pub mod Placement
pub mod Answers
pub mod AnyPrograms
pub mod Evaluations
