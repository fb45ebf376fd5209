pub mod Spelling
pub mod Filling
pub mod Reading
