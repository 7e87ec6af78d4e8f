pub mod Law
pub mod Pools
