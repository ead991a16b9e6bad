pub mod Frames
pub mod LineTables
pub mod FrameTests
pub mod Laws
