pub mod Groups
pub mod Unmixed
pub mod Sixteen
pub mod Undoing
