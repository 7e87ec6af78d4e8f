-- The tickets of the blocks that an image marks, each at its address (Linux filesystems/f2fs, SIT and SSA).
use Rattle.std.specs.Prelude.{◌≡◌, ℕ, ◌+◌, ◌<◌, ◌≤◌, List, length, Option, Some, None, slice_index_or}
use Rattle.geometry.specs.declared.geometry.Geometry.{Geometry}
use Rattle.geometry.specs.declared.owner.Owner.{Owner}
use Rattle.geometry.specs.Area.{block_count}
use Rattle.image.specs.Image.{Image}
use Rattle.tickets.specs.Placed.{Placed}
use Rattle.mount_blocks.specs.Marked.{marked_owner}

-- the ticket of a block that somebody owns, with its bytes
abbrev pub ticket_of : Option Owner → ℕ → List ℕ → Option Placed
ticket_of None address bytes = None
ticket_of (Some owner) address bytes = Some (record { mark = record { address = address; owner = owner }; content = bytes })

-- these are the bytes of the blocks of a run that begins at address 1, by their addresses
abbrev pub HaveBytes : {B : Type 0} → (B → List ℕ) → (ℕ → List ℕ) → List B → Type 0
HaveBytes {B} content_of bytes blocks = (k : ℕ) (other : B) → k < length blocks → content_of (slice_index_or blocks k other) ≡ bytes (k + 1)

-- A place for each address, and one for 0: those past an address have the tickets of the blocks that are marked, and the
-- others have none yet.
pub record AreTicketsPast (geometry : Geometry) (image : Image) (bytes : ℕ → List ℕ) (left : ℕ) (tickets : List (Option Placed)) : Type 0 where
  pub places : length tickets ≡ block_count geometry + 1
  pub none : (address : ℕ) → address ≤ left → slice_index_or tickets address None ≡ None
  pub there : (address : ℕ) → left < address → address ≤ block_count geometry
      → slice_index_or tickets address None ≡ ticket_of (marked_owner geometry image address) address (bytes address)
