pub mod LaneRows
pub mod Formulas
pub mod LaneCodes
