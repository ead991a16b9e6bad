pub mod Ring
pub mod Floor
pub mod LaneLaws
pub mod RangeLaws
pub mod NameLaws
