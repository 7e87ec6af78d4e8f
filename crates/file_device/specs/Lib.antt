pub mod Place
pub mod Held
pub mod Blocks
pub mod Named
