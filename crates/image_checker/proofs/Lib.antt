pub mod TreeLemmas
pub mod RangeLemmas
pub mod RoomLemmas
pub mod NamedLemmas
pub mod FaultLemmas
pub mod LengthLemmas
pub mod UsedLemmas
pub mod ZerosBehind
