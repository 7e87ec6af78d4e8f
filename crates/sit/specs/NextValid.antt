-- The least valid block of a segment at or past a place.
use Rattle.std.specs.Prelude.{◌≡◌, ℕ, ◌<◌, ◌≤◌, List, length, slice_index_or, Option, Some, None, IsSome}
use Rattle.geometry.specs.declared.owner.Owner.{Owner}

abbrev pub IsNextValid : List (Option Owner) → ℕ → Option ℕ → Type 0
IsNextValid summaries from None = (o : ℕ) → from ≤ o → slice_index_or summaries o None ≡ None
IsNextValid summaries from (Some o) = (from ≤ o) × (o < length summaries) × IsSome (slice_index_or summaries o None) × ((p : ℕ) → from ≤ p → p < o → slice_index_or summaries p None ≡ None)
