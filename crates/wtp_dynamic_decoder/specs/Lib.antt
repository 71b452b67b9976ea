pub mod Decoder
pub mod Lines
pub mod Opening
pub mod Stored
