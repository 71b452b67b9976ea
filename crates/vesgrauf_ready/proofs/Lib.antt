pub mod Basics
pub mod Orders
pub mod Rounds
pub mod Starving
