-- Files that were put one after the other.
use Rattle.std.specs.Prelude.{◌≡◌, ℕ, List, [], ◌∷◌}
use Rattle.file_cells.specs.Pass.{Pass}
use Rattle.named_files.specs.Files.{WasEntered, WasPut}
use Rattle.named_files.specs.declared.work.put_all.NewFile.{NewFile}
use Rattle.named_folder.specs.Folder.{Row}

abbrev pub WerePut : ℕ → List NewFile → List Pass → List Pass → Type 0
WerePut size [] before after = after ≡ before
WerePut size (file ∷ files) before after = (number : ℕ) × (between : List Pass) × WasPut size file.name.now file.bytes.now number before between × WerePut size files between after

-- the same, while the folder's file is as it was: the new rows tell of the files
abbrev pub WereEntered : ℕ → List NewFile → List Row → List Row → List Pass → List Pass → Type 0
WereEntered size [] rows renewed before after = (renewed ≡ rows) × (after ≡ before)
WereEntered size (file ∷ files) rows renewed before after =
    (number : ℕ) × (next : List Row) × (between : List Pass) × WasEntered size file.name.now file.bytes.now number rows next before between
    × WereEntered size files next renewed between after
