pub mod HeadWords
pub mod HeadSteps
pub mod NodeTokens
pub mod CodeReading
