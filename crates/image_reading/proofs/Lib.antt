mod Anew
mod Copying
mod RefusingUpgrade
mod Written
mod FileBlocks
pub mod Handing
mod Refusing
mod Tables
mod Telling
