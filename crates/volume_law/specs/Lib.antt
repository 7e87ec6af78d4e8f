pub mod Lawful
pub mod Found
