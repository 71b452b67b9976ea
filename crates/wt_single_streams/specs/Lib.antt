pub mod Closing
pub mod Datagrams
pub mod Ends
pub mod Responses
