pub mod Chain
pub mod Slices
pub mod Turns
