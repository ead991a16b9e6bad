mod AxiomPlaces
pub mod BoundLaws
pub mod EqualityLaws
pub mod PartLaws
