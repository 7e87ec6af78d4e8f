pub mod DigitLemmas
pub mod CallLemmas
