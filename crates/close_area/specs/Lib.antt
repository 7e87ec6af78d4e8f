pub mod HeldTokens
pub mod Returned
pub mod Shown
pub mod Refused
