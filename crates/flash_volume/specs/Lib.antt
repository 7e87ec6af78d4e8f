pub mod Answers
pub mod Beside
pub mod Refused
pub mod Rounds
pub mod Visited
pub mod Worked
