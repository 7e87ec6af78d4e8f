-- The files of a lawful image, each at the number of its inode, and the memory for them.
use Rattle.std.specs.Prelude.{◌≡◌, ℕ, ◌+◌, ◌≤◌, List, length, Option, Some, None, slice_index_or, true}
use Rattle.geometry.specs.declared.geometry.Geometry.{Geometry}
use Rattle.image.specs.Image.{Image}
use Rattle.image.specs.Walk.{is_taken}
use Rattle.mount_blocks.specs.TreeGoods.{Shelves}
use Rattle.nodes.specs.declared.file.FileState.{FileState}
use Rattle.tickets.specs.Placed.{Placed}
use Rattle.mount_blocks.specs.FileLoaded.{IsFileRoom, IsLoadedFile}
use Rattle.mount_blocks.specs.declared.file_room.FileRoom.{FileRoom}

-- there is a file of this inode
pub record HasFile (geometry : Geometry) (image : Image) (inode : ℕ) : Type 0 where
  pub low : 1 ≤ inode
  pub high : inode ≤ geometry.files
  pub taken : is_taken image inode ≡ true

-- what stands at the number of an inode: where there is a file of it, something that is right for it, and else nothing
pub record StandsFor {A : Type 0} (geometry : Geometry) (image : Image) (Right : ℕ → A → Type 0) (inode : ℕ) (found : Option A) : Type 0 where
  pub file : HasFile geometry image inode → (x : A) × (found ≡ Some x)
  pub right : (x : A) → found ≡ Some x → HasFile geometry image inode × Right inode x

-- a place for each inode, and one for 0, with the memory of each file
pub record AreRooms {B L : Type 0} (geometry : Geometry) (image : Image) (rooms : List (Option (FileRoom B L))) : Type 0 where
  pub places : length rooms ≡ geometry.files + 1
  pub each : (inode : ℕ) → StandsFor geometry image (λ i room. IsFileRoom image i room) inode (slice_index_or rooms inode None)

-- what is left of such memory is of files
abbrev pub AreOfFiles : {B L : Type 0} → List (Option (FileRoom B L)) → Type 0
AreOfFiles {B} {L} rooms = (k : ℕ) (room : FileRoom B L) → slice_index_or rooms k None ≡ Some room → (image : Image) × (inode : ℕ) × IsFileRoom image inode room

-- the same with each file, out of a stock that had all this
pub record AreFiles {B L : Type 0} (geometry : Geometry) (image : Image) (all : Shelves Placed) (files : List (Option (FileState B L))) : Type 0 where
  pub places : length files ≡ geometry.files + 1
  pub each : (inode : ℕ) → StandsFor geometry image (λ i file. IsLoadedFile image geometry.shape all i file) inode (slice_index_or files inode None)
