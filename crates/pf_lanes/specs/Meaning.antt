pub mod Lanes
pub mod Works
pub mod Places
pub mod Recipes
pub mod Registers
