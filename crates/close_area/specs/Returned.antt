-- Files whose passes were spent, and what they had is given back.
use Rattle.std.specs.Prelude.{◌≡◌, ◌⊎◌, ℕ, ◌+◌, List, Some, is_some, slice_get, if◌then◌else◌}
use Rattle.geometry.specs.Weights.{weigh}
use Rattle.geometry.specs.File.{Block}
use Rattle.image_law.specs.Items.{Among}
use Rattle.checkpoint.specs.Files.{HoldContents}
use Rattle.nodes.specs.declared.file.FileState.{FileState}
use Rattle.nodes.specs.File.{file_of}
use Rattle.file_cells.specs.Cell.{CellView}
use Rattle.file_cells.specs.Pass.{Pass}
use Rattle.close_area.specs.HeldTokens.{HoldTokens}

module _ {B L : Type 0} where
  -- how many of the files live
  abbrev pub living : List (CellView B L) → ℕ
  living files = weigh (λ c. if is_some c.state then 1 else 0) files

  -- each file is there as it was, or this holds of its place and of what it was
  abbrev pub EachLeft : (ℕ → CellView B L → FileState B L → Type 0) → List (CellView B L) → List (CellView B L) → Type 0
  EachLeft Is old new = (k : ℕ) (c : CellView B L) (f : FileState B L) → slice_get old k ≡ Some c → c.state ≡ Some f → (slice_get new k ≡ Some c) ⊎ Is k c f

  -- each of these files is there as it was, or was shown by a pass
  abbrev pub AreGiven : List Pass → List (CellView B L) → List (CellView B L) → Type 0
  AreGiven passes = EachLeft (λ k c f. Among (record { number = k + 1; file = file_of f }) passes)

  -- the same, or the main blocks hold what its tickets and tokens showed
  abbrev pub AreReturned : (ℕ → Block) → List (CellView B L) → List (CellView B L) → Type 0
  AreReturned bytes = EachLeft (λ k c f. HoldContents bytes f × HoldTokens bytes c.account.tokens)

  -- the file that a pass shows
  pub record IsFileOf (files : List (CellView B L)) (pass : Pass) : Type 0 where
    pub place : ℕ
    pub cell : CellView B L
    pub state : FileState B L
    pub there : slice_get files place ≡ Some cell
    pub lives : cell.state ≡ Some state
    pub number : pass.number ≡ place + 1
    pub file : pass.file ≡ file_of state
