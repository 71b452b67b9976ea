pub mod Pieces
pub mod Layout
pub mod Blocks
pub mod State
pub mod Steps
pub mod Runs
