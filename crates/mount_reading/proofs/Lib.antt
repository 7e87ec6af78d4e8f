pub mod Opened
pub mod Blocks
pub mod Moments
