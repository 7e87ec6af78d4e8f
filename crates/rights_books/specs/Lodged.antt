-- What a file's tickets tell of the segments.
use Rattle.std.specs.Prelude.{◌≡◌, ℕ, ◌-◌, ◌/◌, ◌<◌, List}
use Rattle.geometry.specs.declared.owner.Mark.{Mark}
use Rattle.geometry.specs.Mark.{same_mark}
use Rattle.rights_books.specs.declared.claim.Layout.{Layout}
use Rattle.rights_books.specs.Lists.{times}

-- each ticket of a block of this segment, of so many blocks, is of a marked one
abbrev pub AreMarked : ℕ → ℕ → List Mark → List Mark → Type 0
AreMarked blocks segment tickets marks =
    (m : Mark) → (m.address - 1) / blocks ≡ segment → 0 < times same_mark m tickets → 0 < times same_mark m marks

-- each ticket is of a block of one of the segments
abbrev pub AreWithin : Layout → List Mark → Type 0
AreWithin l tickets =
    (m : Mark) → 0 < times same_mark m tickets → (0 < m.address) × ((m.address - 1) / l.blocks < l.segments)
