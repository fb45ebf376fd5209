pub mod Schedule
pub mod Block
pub mod Keys
pub mod Turns
