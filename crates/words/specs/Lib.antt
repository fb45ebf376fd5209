pub mod Sized
pub mod Bits
pub mod Rotation
pub mod Bytes
pub mod Blocks
pub mod Inverse
pub mod Filled
