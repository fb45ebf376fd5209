pub mod OneBlock
pub mod Pieces
