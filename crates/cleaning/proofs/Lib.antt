pub mod Lawful
pub mod Moving
pub mod Served
