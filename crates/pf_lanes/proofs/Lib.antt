pub mod LaneLaws
mod FillLaws
mod ResidueLaws
pub mod PlaceLaws
mod WorkLaws
pub mod Columns
