-- A segment that a reader's seat pins.
use Rattle.std.specs.Prelude.{◌≡◌, ℕ, ◌<◌, List}
use Rattle.geometry.specs.declared.owner.Mark.{Mark}
use Rattle.geometry.specs.Mark.{same_mark}
use Rattle.geometry.specs.Address.{segment_of}
use Rattle.rights_books.specs.Lists.{times}
use Rattle.words.specs.Steps.{life_counted}
use Rattle.words.specs.Tokens.{Post}
use Rattle.sit.specs.Segment.{Segment}

-- one of these tickets is of a block of the segment
abbrev pub HasBlockIn : Segment → List Mark → Type 0
HasBlockIn segment tickets = (m : Mark) × (segment_of segment.shape m.address ≡ segment.number) × (0 < times same_mark m tickets)

-- A standing once its segment was pinned: it knows how many pins the step found, and nothing else has changed.
abbrev pub HasBeenPinned : Post → Post → Type 0
HasBeenPinned old new = (found : ℕ) × (found < 64) × (new.table ≡ old.table) × (new.life ≡ life_counted old.life found)
