pub mod Grammar
pub mod Rows
pub mod Parts
pub mod Fields
pub mod File
pub mod Holding
pub mod OneImage
