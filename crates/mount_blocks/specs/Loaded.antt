-- What an image names at each level of an index tree, and when a tree is what it names (Linux filesystems/f2fs, index structure).
use Rattle.std.specs.Prelude.{◌≡◌, ℕ, ◌+◌, ◌-◌, ◌<◌, ◌≤◌, ◌==◌, if◌then◌else◌, Bool, false, List, [], ◌∷◌, length, slice_index, slice_index_or, Option, Some, None}
use Rattle.std.proofs.Common.{suc}
use Rattle.geometry.specs.declared.owner.Mark.{Mark}
use Rattle.geometry.specs.declared.owner.Owner.TheVariants.{Data}
use Rattle.rights_books.specs.declared.claim.TakenNumber.{TakenNumber}
use Rattle.image.specs.Node.{Node}
use Rattle.image.specs.Image.{Image, entry_of, node_of}
use Rattle.image.specs.Walk.{node_name}
use Rattle.nodes.specs.declared.branch.Branch.{Branch}
use Rattle.nodes.specs.Tree.{entry_at, AreNone}
use Rattle.nodes.specs.Change.{Weighing}
use Rattle.mount_blocks.specs.declared.room.NodeRoom.{NodeRoom}

-- what the entries of a node other than an inode are: addresses of a direct node, node numbers of an indirect one
abbrev pub numbers_in : Bool → Node → List ℕ
numbers_in is_leaf node = if is_leaf then node.addresses else node.children

-- the class of such a node
abbrev pub class_of : Bool → ℕ
class_of is_leaf = if is_leaf then 1 else 2

-- f of each number of a list and its place in it, added up, from a place on
abbrev pub weigh_from : (ℕ → ℕ → ℕ) → ℕ → List ℕ → ℕ
weigh_from f slot [] = 0
weigh_from f slot (n ∷ ns) = f slot n + weigh_from f (suc slot) ns

-- what a data block weighs that an entry names; an entry of 0 names nothing
abbrev pub name_weight : (Mark → ℕ) → ℕ → ℕ → ℕ → ℕ
name_weight h parent slot number = if number == 0 then 0 else h (record { address = number; owner = Data parent slot })

-- what the block of a node weighs, and all that its entries name
abbrev pub names_below : Bool → (ℕ → ℕ → ℕ → ℕ) → Image → (Mark → ℕ) → ℕ → ℕ
names_below is_leaf names image h number =
    if number == 0 then 0
    else h (node_name image number) + weigh_from (names number) 0 (numbers_in is_leaf (node_of image number))

-- A node that an entry names: it belongs to the inode, is of the class of its level and has so many entries, and what these name fits.
pub record IsNodeThere (is_leaf : Bool) (Fits : ℕ → Type 0) (image : Image) (entries inode number : ℕ) : Type 0 where
  pub belongs : (entry_of image number).inode ≡ inode
  pub class : (node_of image number).class ≡ class_of is_leaf
  pub count : length (numbers_in is_leaf (node_of image number)) ≡ entries
  pub below : (k : ℕ) → Fits (slice_index (numbers_in is_leaf (node_of image number)) k)

abbrev pub FitsBelow : Bool → (ℕ → Type 0) → Image → ℕ → ℕ → ℕ → Type 0
FitsBelow is_leaf Fits image entries inode number = 0 < number → IsNodeThere is_leaf Fits image entries inode number

-- Room for what a list of numbers names: for each of them a slot with nothing, and up to where all that follow are 0 the room of
-- what it names, the last number's first.
pub record IsRoomFor {C R : Type 0} (Roomy : ℕ → R → Type 0) (numbers : List ℕ) (room : NodeRoom C R) : Type 0 where
  pub places : length room.slots.items ≡ length numbers
  pub empty : AreNone room.slots.items
  pub few : length room.below.items ≤ length numbers
  pub past : (k : ℕ) → length room.below.items ≤ k → slice_index numbers k ≡ 0
  pub below : (k : ℕ) (other : R) → k < length room.below.items → Roomy (slice_index numbers (length room.below.items - 1 - k)) (slice_index_or room.below.items k other)

-- the room of what an entry names
abbrev pub RoomyBelow : {C R : Type 0} → Bool → (ℕ → R → Type 0) → Image → ℕ → Option (NodeRoom C R) → Type 0
RoomyBelow is_leaf Roomy image number None = number ≡ 0
RoomyBelow is_leaf Roomy image number (Some room) =
    (0 < number) × IsRoomFor Roomy (numbers_in is_leaf (node_of image number)) room

-- the ticket of the block that an entry of a node names
abbrev pub IsTicketOf : {L : Type 0} → (L → Mark) → List (Option L) → ℕ → ℕ → ℕ → Option L → Type 0
IsTicketOf mark all parent slot number None = number ≡ 0
IsTicketOf mark all parent slot number (Some t) =
    (0 < number) × (slice_index_or all number None ≡ Some t) × (mark t ≡ record { address = number; owner = Data parent slot })

-- what the entries of a node name, one after another
abbrev pub AreLoaded : {C : Type 0} → (ℕ → ℕ → Option C → Type 0) → List ℕ → List (Option C) → Type 0
AreLoaded Loaded numbers slots =
    (length slots ≡ length numbers) × ((k : ℕ) → k < length numbers → Loaded k (slice_index numbers k) (entry_at slots k))

-- A node that an entry names, with its token, and what its entries name. It is not marked, nor is one below it.
pub record IsNodeOf {C : Type 0} (is_leaf : Bool) (Loaded : ℕ → ℕ → ℕ → Option C → Type 0) (image : Image) (tokens : List (Option TakenNumber)) (number : ℕ) (b : Branch C) : Type 0 where
  pub some : 0 < number
  pub token : slice_index_or tokens number None ≡ Some b.token
  pub number_is : b.token.number ≡ number
  pub address : b.token.address ≡ (entry_of image number).address
  pub clean : b.entries.dirty ≡ false
  pub none_below : b.entries.marked ≡ 0
  pub below : AreLoaded (Loaded number) (numbers_in is_leaf (node_of image number)) b.entries.slots.items

abbrev pub LoadedBelow : {C : Type 0} → Bool → (ℕ → ℕ → ℕ → Option C → Type 0) → Image → List (Option TakenNumber) → ℕ → Option (Branch C) → Type 0
LoadedBelow is_leaf Loaded image tokens number None = number ≡ 0
LoadedBelow is_leaf Loaded image tokens number (Some b) = IsNodeOf is_leaf Loaded image tokens number b

-- what tickets and tokens weigh
abbrev pub of_rights : {L : Type 0} → (L → ℕ) → (TakenNumber → ℕ) → Weighing L
of_rights ticket token = record { ticket = ticket; node = λ n. token n.token }
