-- The open segments of the logs.
use Rattle.std.specs.Prelude.{ℕ, ◌<◌, List, Option, length, slice_index_or}
use Rattle.atomic_table.specs.Seated.{TableId}
use Rattle.words.specs.Tokens.{OpenSegment}
use Rattle.area.specs.Cells.{LogStands}

-- each slip that is there is of these words, and of one of so many segments
abbrev pub EachStands : TableId → ℕ → List (Option OpenSegment) → Type 0
EachStands table count slips = (k : ℕ) (other : Option OpenSegment) → k < length slips → LogStands table count (slice_index_or slips k other)
