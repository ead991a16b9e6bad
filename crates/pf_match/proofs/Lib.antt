pub mod TrialLaws
pub mod MatchLaws
pub mod KeyLaws
pub mod CandidateLaws
pub mod ListLaws
