pub mod Lends
pub mod Runs
pub mod Slots
pub mod Streams
