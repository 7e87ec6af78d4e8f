pub mod Cases
pub mod Entries
mod Fields
mod Places
pub mod Spelling
pub mod Updates
