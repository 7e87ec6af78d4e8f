pub mod Holding
pub mod Emptied
pub mod Giving
pub mod Mounting
