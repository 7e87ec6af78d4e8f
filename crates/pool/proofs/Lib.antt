pub mod Tallies
pub mod Steps
pub mod Gathering
