pub mod Access
pub mod Errors
pub mod Export
pub mod Fields
pub mod Flags
pub mod Options
pub mod Request
