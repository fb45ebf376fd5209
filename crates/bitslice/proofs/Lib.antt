pub mod Circuits
pub mod Boxes
pub mod Arms
pub mod Linear
