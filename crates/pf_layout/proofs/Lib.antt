pub mod OrderLaws
pub mod InverseLaws
