pub mod Padding
pub mod Keys
pub mod KeyTest
pub mod Inverse
pub mod Lengths
