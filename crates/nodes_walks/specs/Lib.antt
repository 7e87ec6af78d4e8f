pub mod Writing
pub mod Moving
pub mod Unmarked
pub mod Data
pub mod Lent
pub mod Kept
