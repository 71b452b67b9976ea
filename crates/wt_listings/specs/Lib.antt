pub mod CutSource
pub mod Lines
pub mod Listing
pub mod Frames
pub mod Stepped
pub mod Request
pub mod Program
