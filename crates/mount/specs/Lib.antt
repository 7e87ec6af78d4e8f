pub mod MountFiles
pub mod Empty
pub mod Made
pub mod Logs
pub mod Mounted
pub mod Lodged
pub mod Pooled
