pub mod RoomLemmas
pub mod Putting
