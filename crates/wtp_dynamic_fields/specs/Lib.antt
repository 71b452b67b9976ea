pub mod Lists
pub mod Reading
pub mod Static
