pub mod Matches
pub mod Candidates
