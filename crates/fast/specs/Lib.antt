pub mod Turns
pub mod Lanes
