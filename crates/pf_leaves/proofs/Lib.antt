pub mod LeafLaws
pub mod PixelLaws
