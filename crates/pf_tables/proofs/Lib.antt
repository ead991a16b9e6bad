pub mod FixedRows
pub mod TruthLaws
pub mod PairLaws
