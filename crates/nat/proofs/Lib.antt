pub mod Entries
pub mod Shards
pub mod Tables
pub mod Handed
