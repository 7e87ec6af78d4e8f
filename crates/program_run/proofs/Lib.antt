pub mod Hex
pub mod OnOk
pub mod FilePlaces
pub mod Placing
mod Counting
pub mod OneCall
pub mod Filling
pub mod Moving
pub mod Sharing
pub mod Doing
pub mod Giving
pub mod Keeping
pub mod Lending
pub mod WorkerTelling
pub mod Looking
pub mod Whole
pub mod Zipping
mod Consumed
mod Front
pub mod Texts
mod Memory
pub mod Loans
pub mod Runs
pub mod Going
pub mod Pausing
pub mod Turning
pub mod Leaving
pub mod Shown
pub mod Wrapped
pub mod Ending
