pub mod CitingLaws
pub mod StepLaws
pub mod CitedLaws
pub mod TakingLaws
pub mod AcceptLaws
pub mod PairLaws
pub mod JudgeLaws
pub mod FileLaws
