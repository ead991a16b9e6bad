pub mod Files
pub mod Running
pub mod Selections
pub mod RuleFiles
pub mod Checking
pub mod Migrating
pub mod Commands
pub mod Statuses
