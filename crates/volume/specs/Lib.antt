pub mod Picked
pub mod Leaving
