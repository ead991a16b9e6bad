pub mod FileSteps
pub mod LineSteps
