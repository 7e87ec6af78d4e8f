pub mod Results
pub mod Walks
pub mod FindingBelow
pub mod Flushed
pub mod Search
pub mod Ranges
pub mod Finding
pub mod Keeping
