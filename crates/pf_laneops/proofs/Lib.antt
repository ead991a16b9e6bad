pub mod FormulaLaws
pub mod ValueLaws
pub mod ItemLaws
pub mod RowRanges
pub mod LaneLaws
pub mod CodeLaws
