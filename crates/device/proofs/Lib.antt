mod Walks
pub mod Ranges
pub mod Moments
pub mod Calls
pub mod Gathering
pub mod BlockRuns
mod ZeroBlocks
mod ImageFiles
