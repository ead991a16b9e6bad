pub mod CommandSteps
pub mod RunSteps
