pub mod Moves
pub mod Cleaning
pub mod Served
