-- Whether a state is an image's file, and the files that states show (Linux filesystems/f2fs, index structure).
use Rattle.std.specs.Prelude.{◌≡◌, ◌<◌, ℕ, List, map, Some, true}
use Rattle.geometry.specs.File.{File, Block}
use Rattle.tickets.specs.Placed.{Placed}
use Rattle.image.specs.Image.{Image, node_of}
use Rattle.image.specs.Files.{data_address}
use Rattle.image.specs.Walk.{is_taken}
use Rattle.nodes.specs.declared.file.FileState.{FileState}
use Rattle.nodes.specs.File.{ticket_at, address_of, file_of}

-- a state is the image's file of its number: the number is taken there, with the same kind and length, and the same address
-- at each index
pub record IsStateOf {B L : Type 0} (image : Image) (state : FileState B L) : Type 0 where
  pub there : is_taken image state.token.number ≡ true
  pub kind : state.kind ≡ (node_of image state.token.number).kind
  pub length : state.length ≡ (node_of image state.token.number).length
  pub slots : (index : ℕ) → index < state.length → address_of (ticket_at state index) ≡ data_address state.shape image state.token.number index

-- the main blocks hold what a state's tickets show, each at its address
abbrev pub HoldContents : {B L : Type 0} → (ℕ → Block) → FileState B L → Type 0
HoldContents blocks state = (index : ℕ) (ticket : Placed) → ticket_at state index ≡ Some ticket → (0 < ticket.mark.address) × (blocks ticket.mark.address ≡ ticket.content)

-- the files that states show, each with its inode number
abbrev pub files_of : {B L : Type 0} → List (ℕ × FileState B L) → List (ℕ × File)
files_of states = map (λ entry. (entry.0, file_of entry.1)) states
