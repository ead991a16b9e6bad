pub mod FaultTexts
pub mod Verdicts
