-- What the contracts of this crate cite.
pub mod Events
pub mod Pattern
