pub mod Boxes
pub mod Chosen
pub mod Linear
