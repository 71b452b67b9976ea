pub mod Calls
pub mod Transcript
