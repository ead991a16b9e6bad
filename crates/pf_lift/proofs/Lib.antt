pub mod Lists
pub mod Chains
pub mod Weights
pub mod Keeping
pub mod RuleSteps
pub mod Trying
pub mod Going
pub mod KernelTerms
