-- What an image has of a file, and when a state is that file (Linux filesystems/f2fs, index structure).
use Rattle.std.specs.Prelude.{◌≡◌, ℕ, ◌+◌, ◌<◌, true, false, [], ◌∷◌, length, slice_index_or, Option, Some, None}
use Rattle.geometry.specs.declared.shape.Shape.{Shape}
use Rattle.geometry.specs.declared.owner.Mark.{Mark}
use Rattle.geometry.specs.declared.owner.Owner.{Owner}
use Rattle.geometry.specs.Path.{inode_entries, node_entries}
use Rattle.tickets.specs.Placed.{Placed}
use Rattle.nodes.specs.declared.branch.Branch.{Branch}
use Rattle.nodes.specs.declared.file.FileState.{FileState}
use Rattle.image.specs.Image.{Image, node_of, entry_of}
use Rattle.image.specs.Walk.{child, node_name}
use Rattle.mount_blocks.specs.TreeGoods.{Shelves}
use Rattle.mount_blocks.specs.Loaded.{name_weight, names_below, weigh_from, FitsBelow, IsTicketOf, AreLoaded, LoadedBelow, RoomyBelow, IsRoomFor}
use Rattle.mount_blocks.specs.declared.room.NodeRoom.{NodeRoom}
use Rattle.mount_blocks.specs.declared.file_room.FileRoom.{FileRoom}

-- what a direct, an indirect and a double indirect node of an image have
abbrev pub fits_direct : Image → ℕ → ℕ → ℕ → Type 0
fits_direct image e inode = FitsBelow true (λ _. Unit {0}) image e inode

abbrev pub fits_indirect : Image → ℕ → ℕ → ℕ → Type 0
fits_indirect image e inode = FitsBelow false (fits_direct image e inode) image e inode

abbrev pub fits_double : Image → ℕ → ℕ → ℕ → Type 0
fits_double image e inode = FitsBelow false (fits_indirect image e inode) image e inode

-- An inode of an image: it has as many addresses as the shape says, and the nodes that it names fit.
pub record FitsFile (image : Image) (shape : Shape) (inode : ℕ) : Type 0 where
  pub some : 0 < inode
  pub class : (node_of image inode).class ≡ 0
  pub belongs : (entry_of image inode).inode ≡ inode
  pub addresses : length (node_of image inode).addresses ≡ inode_entries shape
  pub direct : (k : ℕ) → k < 2 → fits_direct image (node_entries shape) inode (child image inode k)
  pub indirect : (k : ℕ) → k < 2 → fits_indirect image (node_entries shape) inode (child image inode (2 + k))
  pub double : fits_double image (node_entries shape) inode (child image inode 4)

-- what is named below an entry of the inode
abbrev pub names_direct : Image → (Mark → ℕ) → ℕ → ℕ
names_direct image h = names_below true (λ parent slot number. name_weight h parent slot number) image h

abbrev pub names_indirect : Image → (Mark → ℕ) → ℕ → ℕ
names_indirect image h = names_below false (λ _ _ number. names_direct image h number) image h

abbrev pub names_double : Image → (Mark → ℕ) → ℕ → ℕ
names_double image h = names_below false (λ _ _ number. names_indirect image h number) image h

-- what all blocks of a file weigh
abbrev pub file_names : Image → (Mark → ℕ) → ℕ → ℕ
file_names image h inode =
    h (node_name image inode)
    + (weigh_from (λ slot number. name_weight h inode slot number) 0 (node_of image inode).addresses
    + (weigh_from (λ _ number. names_direct image h number) 0 (child image inode 0 ∷ child image inode 1 ∷ [])
    + (weigh_from (λ _ number. names_indirect image h number) 0 (child image inode 2 ∷ child image inode 3 ∷ [])
    + weigh_from (λ _ number. names_double image h number) 0 (child image inode 4 ∷ []))))

-- a ticket, a direct, an indirect and a double indirect node as the image names them
abbrev pub loaded_ticket : Shelves Placed → ℕ → ℕ → ℕ → Option Placed → Type 0
loaded_ticket all parent slot number value = IsTicketOf (λ t. t.mark) all.tickets parent slot number value

abbrev pub loaded_direct : Image → Shelves Placed → ℕ → Option (Branch Placed) → Type 0
loaded_direct image all number value = LoadedBelow true (loaded_ticket all) image all.tokens number value

abbrev pub loaded_indirect : Image → Shelves Placed → ℕ → Option (Branch (Branch Placed)) → Type 0
loaded_indirect image all number value = LoadedBelow false (λ _ _ n v. loaded_direct image all n v) image all.tokens number value

abbrev pub loaded_double : Image → Shelves Placed → ℕ → Option (Branch (Branch (Branch Placed))) → Type 0
loaded_double image all number value = LoadedBelow false (λ _ _ n v. loaded_indirect image all n v) image all.tokens number value

-- A state that is an image's file, with the tickets and tokens of a stock. None of its nodes is marked.
pub record IsLoadedFile {B L : Type 0} (image : Image) (shape : Shape) (all : Shelves Placed) (inode : ℕ) (f : FileState B L) : Type 0 where
  pub shape_is : f.shape ≡ shape
  pub kind_is : f.kind ≡ (node_of image inode).kind
  pub length_is : f.length ≡ (node_of image inode).length
  pub token : slice_index_or all.tokens inode None ≡ Some f.token
  pub number_is : f.token.number ≡ inode
  pub address : f.token.address ≡ (entry_of image inode).address
  pub unsized : f.resized ≡ false
  pub clean_tickets : f.tickets.dirty ≡ false
  pub clean_direct : f.direct.dirty ≡ false
  pub clean_indirect : f.indirect.dirty ≡ false
  pub clean_double : f.double.dirty ≡ false
  pub tickets : AreLoaded (loaded_ticket all inode) (node_of image inode).addresses f.tickets.slots.items
  pub direct : AreLoaded (λ _ n v. loaded_direct image all n v) (child image inode 0 ∷ child image inode 1 ∷ []) f.direct.slots.items
  pub indirect : AreLoaded (λ _ n v. loaded_indirect image all n v) (child image inode 2 ∷ child image inode 3 ∷ []) f.indirect.slots.items
  pub double : AreLoaded (λ _ n v. loaded_double image all n v) (child image inode 4 ∷ []) f.double.slots.items

-- the memory of direct, indirect and double indirect nodes
abbrev pub roomy_direct : Image → ℕ → Option (NodeRoom Placed (Unit {0})) → Type 0
roomy_direct image number room = RoomyBelow true (λ _ _. Unit {0}) image number room

abbrev pub roomy_indirect : Image → ℕ → Option (NodeRoom (Branch Placed) (Option (NodeRoom Placed (Unit {0})))) → Type 0
roomy_indirect image number room = RoomyBelow false (λ n r. roomy_direct image n r) image number room

abbrev pub roomy_double : Image → ℕ → Option (NodeRoom (Branch (Branch Placed)) (Option (NodeRoom (Branch Placed) (Option (NodeRoom Placed (Unit {0})))))) → Type 0
roomy_double image number room = RoomyBelow false (λ n r. roomy_indirect image n r) image number room

-- the memory of all that an inode names
pub record IsFileRoom {B L : Type 0} (image : Image) (inode : ℕ) (room : FileRoom B L) : Type 0 where
  pub tickets : IsRoomFor (λ _ _. Unit {0}) (node_of image inode).addresses room.tickets
  pub direct : IsRoomFor (λ n r. roomy_direct image n r) (child image inode 0 ∷ child image inode 1 ∷ []) room.direct
  pub indirect : IsRoomFor (λ n r. roomy_indirect image n r) (child image inode 2 ∷ child image inode 3 ∷ []) room.indirect
  pub double : IsRoomFor (λ n r. roomy_double image n r) (child image inode 4 ∷ []) room.double

-- what stands at an index: the ticket of the block that is named there, which belongs to this owner
abbrev pub Ended : Shelves Placed → ℕ → Option Owner → Option Placed → Type 0
Ended all number owner None = number ≡ 0
Ended all number owner (Some t) =
    (0 < number) × (slice_index_or all.tickets number None ≡ Some t) × (t.mark.address ≡ number) × (owner ≡ Some t.mark.owner)
