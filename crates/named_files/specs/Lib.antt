pub mod Content
pub mod Files
pub mod Kept
pub mod Left
pub mod Many
