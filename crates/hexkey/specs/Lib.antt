pub mod Key
pub mod Symbols
pub mod Answers
