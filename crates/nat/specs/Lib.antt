pub mod Taken
pub mod Slots
pub mod Shard
pub mod Noted
pub mod Table
