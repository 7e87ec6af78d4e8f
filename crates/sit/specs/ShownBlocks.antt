-- The blocks of a volume by their addresses, as the core machine has them, and those of them that are at home in a segment.
use Rattle.std.specs.Prelude.{◌≡◌, ℕ, ◌<◌, [], None, slice_index_or}
use Rattle.geometry.specs.Shape.{segment_blocks}
use Rattle.geometry.specs.Address.{address_of}
use Rattle.geometry.specs.File.{Block}
use Rattle.sit.specs.Segment.{Segment}

-- each block that nobody names is at home with the bytes at its address
abbrev pub ShowsBlocks : Segment → (ℕ → Block) → Type 0
ShowsBlocks segment blocks =
    (offset : ℕ) → offset < segment_blocks segment.shape → slice_index_or segment.summaries offset None ≡ None
    → slice_index_or segment.contents offset [] ≡ blocks (address_of segment.shape segment.number offset)

-- where the volume's blocks change in this way, what the segment showed before goes into what it shows after
abbrev pub FollowsBlocks : ((ℕ → Block) → ℕ → Block) → Segment → Segment → Type 0
FollowsBlocks change old new = (blocks : ℕ → Block) → ShowsBlocks old blocks → ShowsBlocks new (change blocks)
