pub mod NumberLemmas
pub mod PartLemmas
pub mod SpellingLemmas
pub mod ReadingLemmas
pub mod WritingLemmas
pub mod Unchanged
