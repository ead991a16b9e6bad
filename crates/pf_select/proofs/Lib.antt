pub mod MinBlock
pub mod HeadLaws
pub mod HeadlineLaws
