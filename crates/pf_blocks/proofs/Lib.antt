pub mod GrowthLaws
pub mod MarkLaws
pub mod LoadLaws
pub mod GatherLaws
pub mod StateLaws
pub mod OutputLaws
pub mod FinalLaws
