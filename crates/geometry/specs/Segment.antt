-- How a segment is filled, and what each of its changes makes of that. A block that somebody names is valid (Linux filesystems/f2fs, segment information table and segment summary area); the order of the places is that of a log (Rosenblum and Ousterhout 1991). Its states are those of Life.
use Rattle.std.specs.Prelude.{◌≡◌, ℕ, ◌+◌, List, Option, Some, None, Bool, false, replicate, slice_set, slice_index_or}
use Rattle.geometry.specs.declared.owner.Owner.{Owner}
use Rattle.geometry.specs.declared.state.State.{State}
use Rattle.geometry.specs.declared.state.State.TheVariants.{Free, Open, Sealed, Prefree}

-- who names each block of a segment, and the place of its next append
pub record Fill : Type 0 where
  pub owners : List (Option Owner)
  pub next : ℕ

-- as a format leaves a segment of so many blocks
abbrev pub unfilled : ℕ → Fill
unfilled blocks = record { owners = replicate blocks None; next = 0 }

-- nobody names any of the blocks
abbrev pub IsVacant : Fill → Type 0
IsVacant fill = (offset : ℕ) → slice_index_or fill.owners offset None ≡ None

-- this owner names the block at a place
abbrev pub named : ℕ → Owner → Fill → Fill
named offset owner fill = record fill { owners = slice_set fill.owners offset (Some owner) }

-- this owner names the block at the next place, and the place behind it is the next one
abbrev pub filled : Owner → Fill → Fill
filled owner fill = record { owners = (named fill.next owner fill).owners; next = fill.next + 1 }

-- A hole: nobody names the block at a place, and the image of the last completed checkpoint does not mark it either, so that it may be written although its segment is not open (threaded logging: Rosenblum and Ousterhout 1991; Linux filesystems/f2fs).
abbrev pub IsHole : Fill → Bool → ℕ → Type 0
IsHole fill kept offset = (slice_index_or fill.owners offset None ≡ None) × (kept ≡ false)

-- nobody names the block at a place any more
abbrev pub vacated : ℕ → Fill → Fill
vacated offset fill = record fill { owners = slice_set fill.owners offset None }

-- the next place of a segment that comes into a state: opening begins at the first
abbrev pub next_after : State → ℕ → ℕ
next_after Free next = next
next_after Open next = 0
next_after Sealed next = next
next_after Prefree next = next

-- a segment comes into a state
abbrev pub fill_after : State → Fill → Fill
fill_after state fill = record fill { next = next_after state fill.next }
