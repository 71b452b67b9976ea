pub mod Reads
pub mod Messages
pub mod Encoded
