pub mod LocksHeld
pub mod TreeOf
pub mod Owned
pub mod FileParts
pub mod WrittenFiles
pub mod Lent
pub mod TakenFrom
pub mod Turned
