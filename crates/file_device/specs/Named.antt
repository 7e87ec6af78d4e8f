-- Which blocks of an image file are read when it is opened: for each block, from address 1 on, there is a flag.
use Rattle.std.specs.Prelude.{◌≡◌, ◌<◌, ◌≤◌, ◌⊎◌, ◌-◌, ℕ, Bool, true, false, List, slice_index_or}
use Rattle.geometry.specs.declared.geometry.Geometry.{Geometry}
use Rattle.geometry.specs.Area.{block_count}
use Rattle.image.specs.Image.{Image, is_marked, no_entry}
use Rattle.packs.specs.Area.{reading_of}
use Rattle.pack_tables.specs.Grammar.{SpellsTables}

-- the tables of an image name an address: as that of a valid block, or as that of a node
abbrev pub IsNamed : Geometry → Image → ℕ → Type 0
IsNamed geometry tables address = (is_marked geometry tables address ≡ true) ⊎ ((k : ℕ) × ((slice_index_or tables.node_table k no_entry).address ≡ address))

-- the flag of an address is set
abbrev pub IsSet : List Bool → ℕ → Type 0
IsSet flags address = slice_index_or flags (address - 1) false ≡ true

-- flags that are set stay so
abbrev pub StaySet : List Bool → List Bool → Type 0
StaySet old new = (k : ℕ) → slice_index_or old k false ≡ true → slice_index_or new k false ≡ true

-- the flag of each block is set that an image's tables name
abbrev pub FlagAll : Geometry → Image → List Bool → Type 0
FlagAll geometry tables flags = (address : ℕ) → 0 < address → address ≤ block_count geometry → IsNamed geometry tables address → IsSet flags address

-- the same of the tables that the pack in each slot of a meta area spells, if it spells any
abbrev pub FlagNamed : Geometry → List ℕ → List Bool → Type 0
FlagNamed geometry area flags =
    (slot : ℕ) → slot ≤ 1 → (tables : Image) → SpellsTables geometry ((reading_of geometry).body slot area) tables → FlagAll geometry tables flags
