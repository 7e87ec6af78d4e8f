pub mod Disk
pub mod Outcomes
pub mod Pieces
pub mod Parts
