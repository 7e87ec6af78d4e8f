-- A shard that is held as slots: slot j of shard k is that of the node number 16 j + k.
use Rattle.image.specs.declared.image.NodeEntry.{NodeEntry}
use Rattle.std.specs.Prelude.{◌≡◌, ◌<◌, ◌≤◌, ℕ, suc, ◌+◌, ◌*◌, List, [], ◌∷◌, length, Option, Some, None, slice_index_or}
use Rattle.geometry.specs.declared.geometry.Geometry.{Geometry}
use Rattle.image.specs.Image.{no_entry}
use Rattle.image_law.specs.Parts.{Token}

-- the tokens of the slots from slot j on
abbrev pub tokens_from : ℕ → ℕ → List (Option NodeEntry) → List Token
tokens_from k j [] = []
tokens_from k j (None ∷ slots) = tokens_from k (suc j) slots
tokens_from k j (Some e ∷ slots) = record { nid = j * 16 + k; inode = e.inode; address = e.address } ∷ tokens_from k (suc j) slots

abbrev pub entry_in : Option NodeEntry → NodeEntry
entry_in None = no_entry
entry_in (Some e) = e

pub record SlotsLaw (geometry : Geometry) (k : ℕ) (slots : List (Option NodeEntry)) : Type 0 where
  pub shard : k < 16
  pub room : (j : ℕ) → j < length slots → j * 16 + k ≤ geometry.nodes
  -- there is no node 0
  pub zero_is_free : k ≡ 0 → slice_index_or slots 0 None ≡ None
