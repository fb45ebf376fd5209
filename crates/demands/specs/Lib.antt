pub mod Unique
pub mod Readings
pub mod Damage
