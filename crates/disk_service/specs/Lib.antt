pub mod Handshake
pub mod Layout
pub mod Sent
