pub mod Statuses
pub mod Page
