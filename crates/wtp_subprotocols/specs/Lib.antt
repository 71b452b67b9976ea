pub mod Strings
pub mod Subprotocols
