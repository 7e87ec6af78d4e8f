pub mod Parts
pub mod Blocks
