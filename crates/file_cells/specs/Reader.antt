-- What contracts see of a reader.
use Rattle.std.proofs.Common.{zero, suc}
use Rattle.std.specs.Prelude.{◌≡◌, ℕ, List, Option, Some, None, IsSome}
use Rattle.std.specs.Ordering.{nat_cmp}
use Rattle.std.specs.FinMap.{FinMap, get, insert, empty, code}
use Rattle.std.specs.Coded.{Coded, coded_ℕ}
use Rattle.geometry.specs.declared.shape.Shape.{Shape}
use Rattle.geometry.specs.Address.{segment_of}
use Rattle.geometry.specs.File.{File}
use Rattle.tickets.specs.Placed.{Placed}
use Rattle.words.specs.Claims.{times}
use Rattle.nodes.specs.declared.file.FileState.{FileState}
use Rattle.nodes.specs.File.{ticket_at}

-- the file as it was, the segment in which the block at each index lay, and the pins of the reader's seat, each a segment and its incarnation
pub record SnapshotOf : Type 0 where
  pub file : File
  pub segments : FinMap nat_cmp ℕ
  pub held : List (ℕ × ℕ)

-- the segment of each block of the file is pinned, once
abbrev pub IsPinned : SnapshotOf → Type 0
IsPinned r = (index : ℕ) → IsSome (get r.file.blocks index) → (s : ℕ) × (get r.segments index ≡ Some s) × (times s r.held ≡ 1)

-- the segment of a ticket's block
abbrev pub segment_at : Shape → Option Placed → Option ℕ
segment_at shape None = None
segment_at shape (Some t) = Some (segment_of shape t.mark.address)

abbrev pub with_segment : ℕ → Option ℕ → FinMap nat_cmp ℕ → FinMap nat_cmp ℕ
with_segment i None segments = segments
with_segment i (Some s) segments = insert segments i s

-- the segments of a map below an index
abbrev pub segments_below : Shape → ℕ → (ℕ → Option Placed) → FinMap nat_cmp ℕ
segments_below shape zero at = empty
segments_below shape (suc n) at = with_segment n (segment_at shape (at n)) (segments_below shape n at)

-- the segment of each block of a file
abbrev pub segments_of : {B L : Type 0} → FileState B L → FinMap nat_cmp ℕ
segments_of f = segments_below f.shape f.length (ticket_at f)

-- how a model stores them
abbrev pub segments_code : Coded (FinMap nat_cmp ℕ)
segments_code = code coded_ℕ coded_ℕ
