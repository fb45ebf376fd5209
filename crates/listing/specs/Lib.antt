pub mod Text
pub mod Stamp
pub mod Line
pub mod Listing
