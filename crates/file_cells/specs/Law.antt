-- The law of a reader.
use Rattle.std.specs.Prelude.{◌≡◌, ℕ, ◌<◌, List, length, Bool, true, false, if◌then◌else◌, slice_index_or, Some, IsSome}
use Rattle.atomic_table.specs.Seated.{TableId}
use Rattle.geometry.specs.declared.geometry.Geometry.{Geometry}
use Rattle.geometry.specs.Address.{segment_of}
use Rattle.geometry.specs.Mark.{same_mark}
use Rattle.geometry.specs.Shape.{block_bytes}
use Rattle.geometry.specs.declared.owner.Mark.{Mark}
use Rattle.geometry.specs.declared.shape.Shape.{Shape}
use Rattle.rights_books.specs.Lists.{times as tickets_of}
use Rattle.tickets.specs.Placed.{Placed}
use Rattle.words.specs.Claims.{times}
use Rattle.words.specs.Tokens.{Shelf}
use Rattle.nodes.specs.declared.file.FileState.{FileState}
use Rattle.nodes.specs.File.{IsFile, ticket_at, content_of}
use Rattle.nodes_law.specs.Contents.{AreWhole}

-- the indexes rise
abbrev pub AreRising : List ℕ → Type 0
AreRising indexes = (j k : ℕ) → j < k → k < length indexes → slice_index_or indexes j 0 < slice_index_or indexes k 0

-- at each of the indexes stands a block of the file, and its bytes are lent
abbrev pub AreOfFile : {B L Lease : Type 0} → (Lease → List ℕ) → List ℕ → List Lease → FileState B L → Type 0
AreOfFile {Lease = Lease} items indexes leases f = (k : ℕ) (d : Lease) → k < length indexes → content_of (ticket_at f (slice_index_or indexes k 0)) ≡ Some (items (slice_index_or leases k d))

-- one of the indexes is this one
abbrev pub IsAmong : List ℕ → ℕ → Type 0
IsAmong indexes i = (k : ℕ) × (k < length indexes) × (slice_index_or indexes k 0 ≡ i)

-- the leases are of the blocks of the file, in the order of their indexes
pub record AreLent {B L Lease : Type 0} (items : Lease → List ℕ) (indexes : List ℕ) (leases : List Lease) (f : FileState B L) : Type 0 where
  pub as_many : length leases ≡ length indexes
  pub rising : AreRising indexes
  pub of_file : AreOfFile items indexes leases f
  pub all : (i : ℕ) → IsSome (ticket_at f i) → IsAmong indexes i

-- one pin on each segment that is noted, and no other
abbrev pub ArePins : List Bool → List (ℕ × ℕ) → Type 0
ArePins pinned held = (s : ℕ) → times s held ≡ (if slice_index_or pinned s false then 1 else 0)

-- the segment of each block of the file is noted
abbrev pub AreCovered : {B L : Type 0} → List Bool → FileState B L → Type 0
AreCovered pinned f = (i : ℕ) (t : Placed) → ticket_at f i ≡ Some t → slice_index_or pinned (segment_of f.shape t.mark.address) false ≡ true

-- in each segment that is noted lies a block whose ticket is one of these
abbrev pub AreOccupied : Shape → List Bool → List Mark → Type 0
AreOccupied shape noted tickets = (s : ℕ) → slice_index_or noted s false ≡ true → (m : Mark) × (segment_of shape m.address ≡ s) × (0 < tickets_of same_mark m tickets)

-- The words and the file are the volume's; the leases have the file's bytes, and its segments are pinned, each once.
pub record ReaderLaw {B L Lease : Type 0} (items : Lease → List ℕ) (geometry : Geometry) (table : TableId)
    (words : Shelf) (f : FileState B L) (blocks : ℕ) (indexes : List ℕ) (leases : List Lease) (pinned : List Bool) (held : List (ℕ × ℕ)) : Type 0 where
  pub words_are : words ≡ record { table = table; segments = geometry.segments }
  pub file : IsFile f
  pub shape_is : f.shape ≡ geometry.shape
  pub whole : AreWhole (block_bytes f.shape) (ticket_at f)
  pub long : blocks ≡ f.length
  pub lent : AreLent items indexes leases f
  pub noted : length pinned ≡ geometry.segments
  pub pins : ArePins pinned held
  pub covered : AreCovered pinned f
