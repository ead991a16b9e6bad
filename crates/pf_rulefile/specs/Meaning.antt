pub mod Tokens
pub mod Words
pub mod Grammar
pub mod Lines
pub mod Says
pub mod RuleTexts
pub mod RuleFiles
pub mod FaultWords
