-- The next block of a map, lent: what a reader keeps of it (Linux lseek, SEEK_DATA, and a read).
use Rattle.std.specs.Prelude.{◌≡◌, ℕ, List, Option, Some, None}
use Rattle.nodes.specs.Tree.{EmptyFrom}
use Rattle.nodes_walks.specs.Data.{IsNextData}
use Rattle.nodes_walks.specs.declared.data_walk.LentBlock.{LentBlock}

-- the lease shows the bytes of the block that stands there, and its address is told
abbrev pub IsLent : {L Lease : Type 0} → (L → ℕ) → (L → List ℕ) → (Lease → List ℕ) → LentBlock Lease → Option L → Type 0
IsLent address_of content_of items lent None = ⊥
IsLent address_of content_of items lent (Some block) = (address_of block ≡ lent.address) × (items lent.lease ≡ content_of block)

-- the block at the least index at or past one at which the map has something; none where it has nothing from there on
abbrev pub IsNextLent : {L Lease : Type 0} → (L → ℕ) → (L → List ℕ) → (Lease → List ℕ) → (ℕ → Option L) → ℕ → Option (LentBlock Lease) → Type 0
IsNextLent address_of content_of items at from None = EmptyFrom at from
IsNextLent address_of content_of items at from (Some lent) = IsNextData at from (Some lent.index) × IsLent address_of content_of items lent (at lent.index)
