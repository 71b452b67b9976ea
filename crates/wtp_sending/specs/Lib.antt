pub mod Writing
pub mod Message
pub mod Session
pub mod Control
pub mod Sent
pub mod Words
pub mod Indexing
pub mod Encoded
