-- What a call that changes one range makes of a file.
use Rattle.std.specs.Prelude.{◌≡◌, ◌+◌, ℕ, Bool, Option, Some, None}
use Rattle.tickets.specs.Placed.{Placed}
use Rattle.nodes.specs.declared.spare.Spare.{Spare}
use Rattle.nodes.specs.Tree.{SetsAt, Same, SparesIndex, SparesPast, HandsOut, HandsOutAt, KeepsNamers, SwapsOne, EmptyFrom}
use Rattle.nodes.specs.Change.{Weighing, WeighsAs, ticket_weight, nothing}
use Rattle.nodes.specs.declared.file.FileState.{FileState}
use Rattle.nodes.specs.File.{IsFile, IsBare, ticket_at, count_of}
use Rattle.nodes.specs.Marks.{MarksNode, unchanged}
use Rattle.nodes.specs.Owners.{namer_at}
use Rattle.nodes.specs.Useful.{IsUseful, reaches, holds}

-- a ticket came to an index, in the place of what stood there, and the node that names it is marked
pub record Puts {B L : Type 0} (old new : FileState B L) (i : ℕ) (t : Placed) (out : Option Placed) : Type 0 where
  pub stood : out ≡ ticket_at old i
  pub sets : SetsAt (ticket_at old) (ticket_at new) i (Some t)
  pub namer : Same (namer_at old) (namer_at new)
  pub useful : (asked : ℕ → ℕ → Bool) → SparesIndex asked i → IsUseful asked old → IsUseful asked new
  pub change : MarksNode unchanged old new (λ w. ticket_weight w out) (λ w. w.ticket t)
  pub length : new.length ≡ old.length
  pub shape : new.shape ≡ old.shape
  pub kind : new.kind ≡ old.kind
  pub file : IsFile new

-- a ticket at or past a length went, or a node that names nothing, and the node that named it is marked
pub record Cuts {B L : Type 0} (old new : FileState B L) (length : ℕ) (spare : Spare Placed) : Type 0 where
  pub out : HandsOut (ticket_at old) (ticket_at new) length spare
  pub namer : KeepsNamers (ticket_at new) (namer_at old) (namer_at new)
  pub useful : (asked : ℕ → ℕ → Bool) → SparesPast asked length → IsUseful asked old → IsUseful asked new
  pub change : (out : Weighing Placed → ℕ) × WeighsAs spare out × MarksNode unchanged old new out nothing
  pub long : new.length ≡ old.length
  pub shape : new.shape ≡ old.shape
  pub kind : new.kind ≡ old.kind
  pub file : IsFile new

-- nothing stands at or past a length, and each node that reaches past it names something
pub record IsCutTo {B L : Type 0} (f : FileState B L) (length : ℕ) : Type 0 where
  pub empty : EmptyFrom (ticket_at f) length
  pub bare : length ≡ 0 → IsBare f
  pub past : IsUseful (reaches length) f

-- the ticket at an index went, or a node on the way to it that names nothing, and the node that named it is marked
pub record Erases {B L : Type 0} (old new : FileState B L) (i : ℕ) (spare : Spare Placed) : Type 0 where
  pub out : HandsOutAt (ticket_at old) (ticket_at new) i spare
  pub namer : KeepsNamers (ticket_at new) (namer_at old) (namer_at new)
  pub useful : (asked : ℕ → ℕ → Bool) → SparesIndex asked i → IsUseful asked old → IsUseful asked new
  pub change : (out : Weighing Placed → ℕ) × WeighsAs spare out × MarksNode unchanged old new out nothing
  pub fewer : count_of new + 1 ≡ count_of old
  pub long : new.length ≡ old.length
  pub shape : new.shape ≡ old.shape
  pub kind : new.kind ≡ old.kind
  pub file : IsFile new

-- nothing stands at an index, and each node on the way to it names something
pub record IsHole {B L : Type 0} (f : FileState B L) (i : ℕ) : Type 0 where
  pub nothing : ticket_at f i ≡ None
  pub way : IsUseful (holds i) f

-- one ticket came for another, and the node that names it is marked
pub record Swaps {B L : Type 0} (old new : FileState B L) (before after : Placed) : Type 0 where
  pub swaps : SwapsOne (ticket_at old) (ticket_at new) before after
  pub namer : Same (namer_at old) (namer_at new)
  pub useful : (asked : ℕ → ℕ → Bool) → IsUseful asked old → IsUseful asked new
  pub change : MarksNode unchanged old new (λ w. w.ticket before) (λ w. w.ticket after)
  pub length : new.length ≡ old.length
  pub shape : new.shape ≡ old.shape
  pub kind : new.kind ≡ old.kind
  pub file : IsFile new
