pub mod Upgraded
pub mod Content
pub mod Held
pub mod Told
pub mod Refused
