pub mod Lists
pub mod Purposes
pub mod Parts
pub mod Pieces
