pub mod Frame
pub mod Window
pub mod Parts
