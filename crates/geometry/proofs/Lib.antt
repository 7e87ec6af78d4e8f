pub mod Weighing
pub mod Indexing
pub mod Addresses
pub mod MarkTests
pub mod Summaries
pub mod Areas
