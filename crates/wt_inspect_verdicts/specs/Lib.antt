pub mod Findings
pub mod Noting
pub mod Players
pub mod Streams
pub mod Turns
