pub mod Ranks
pub mod Turns
pub mod Runs
