-- A shard that is held as slots: slot j of shard k is that of the node number 16 j + k.
use Rattle.std.specs.Prelude.{ℕ, suc, ◌+◌, ◌*◌, List, [], ◌∷◌, Option, Some, None}
use Rattle.rights_books.specs.declared.claim.TakenNumber.{TakenNumber}
use Rattle.geometry.specs.declared.owner.Mark.{Mark}
use Rattle.tickets.specs.Placed.{Placed}

-- a taken number's slot: the inode of its file, and the address and the bytes of its node's block, 0 and none without one
pub record SlotView : Type 0 where
  pub inode : ℕ
  pub address : ℕ
  pub bytes : List ℕ

abbrev pub address_in : {B : Type 0} → (B → ℕ) → Option B → ℕ
address_in address None = 0
address_in address (Some block) = address block

abbrev pub bytes_in : {B : Type 0} → (B → List ℕ) → Option B → List ℕ
bytes_in content None = []
bytes_in content (Some block) = content block

-- a ticket with its block's bytes
abbrev pub placed_in : Option Mark → List ℕ → Option Placed
placed_in None bytes = None
placed_in (Some mark) bytes = Some (record { mark = mark; content = bytes })

abbrev pub entry_of : ℕ → SlotView → TakenNumber
entry_of number slot = record { number = number; inode = slot.inode; address = slot.address; bytes = slot.bytes }

-- the entries of the slots from slot j on
abbrev pub entries_from : ℕ → ℕ → List (Option SlotView) → List TakenNumber
entries_from k j [] = []
entries_from k j (None ∷ slots) = entries_from k (suc j) slots
entries_from k j (Some slot ∷ slots) = entry_of (j * 16 + k) slot ∷ entries_from k (suc j) slots
