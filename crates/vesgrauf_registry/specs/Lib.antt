pub mod Table
pub mod Numbers
pub mod Frames
pub mod Streams
pub mod Settings
pub mod Capsules
pub mod Codes
