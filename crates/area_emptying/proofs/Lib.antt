pub mod Run
pub mod Nothing
pub mod Homes
