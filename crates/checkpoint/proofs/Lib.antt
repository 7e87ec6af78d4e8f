pub mod ImageFiles
pub mod Bodies
pub mod Versions
pub mod Counting
