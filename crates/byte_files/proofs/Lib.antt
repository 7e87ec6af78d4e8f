pub mod Blocks
pub mod Lists
pub mod Readings
pub mod Results
pub mod Truncations
pub mod Writes
