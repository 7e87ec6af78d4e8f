pub mod Folder
pub mod Name
pub mod Names
pub mod Rows
