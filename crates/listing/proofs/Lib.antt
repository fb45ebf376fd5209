pub mod Numerals
pub mod Rows
pub mod Pages
pub mod Counts
pub mod Rooms
pub mod Exact
