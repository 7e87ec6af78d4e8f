-- Names that are gathered with the addresses that they have, each address once.
use Rattle.std.specs.Prelude.{◌≡◌, ◌<◌, ◌^◌, ℕ, Bool, true, false, List, ◌++◌, length, slice_index_or, All}
use Rattle.geometry.specs.declared.owner.Mark.{Mark}
use Rattle.image.specs.Image.{Image, entry_of, node_of}
use Rattle.image.specs.Walk.{has_address}
use Rattle.image.specs.Rules.{HaveOwnAddresses}

-- the map tells the addresses of the names, and no two names have one address
pub record AreNamed (names : List Mark) (map : List Bool) : Type 0 where
  pub shown : (a : ℕ) → a < length map → slice_index_or map a false ≡ has_address a names
  pub apart : HaveOwnAddresses names

-- more names were added, or they can't be: with them an address would be named twice
abbrev pub HasAdded : Bool → List Mark → List Mark → List Mark → Type 0
HasAdded true old more new = new ≡ old ++ more
HasAdded false old more new = ¬ HaveOwnAddresses (old ++ more)

-- a map of this size has room for each address that an entry or a node names, and the number of each slot fits 32 bits
pub record HasRoom (image : Image) (size : ℕ) : Type 0 where
  pub entries : (nid : ℕ) → (entry_of image nid).address < size
  pub addresses : (nid : ℕ) → All (λ a. a < size) (node_of image nid).addresses
  pub slots : (nid : ℕ) → length (node_of image nid).addresses < 2 ^ 32
