pub mod Places
pub mod Journal
pub mod Reading
pub mod Staging
pub mod Pages
