pub mod Readings
pub mod Demand1
pub mod Exports
pub mod Command
pub mod Demand2
mod Same
pub mod Demand3
pub mod Demand3Holds
