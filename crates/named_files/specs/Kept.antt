-- What stays of a file that was put, while what has other names is put, removed or renamed.
use Rattle.std.specs.Prelude.{◌≡◌, ◌≢◌, ◌⊎◌, ℕ, List, [], ◌∷◌, Some, All, length}
use Rattle.file_cells.specs.Pass.{Pass}
use Rattle.geometry.specs.File.{File}
use Rattle.byte_files.specs.Bytes.{HasBytes}
use Rattle.named_files.specs.Files.{file_at, HasFolder, WasPut, WasRemoved, WasDeleted, WasRenamed}
use Rattle.named_files.specs.Many.{WerePut}
use Rattle.named_files.specs.declared.work.put_all.NewFile.{NewFile}
use Rattle.named_folder.specs.Folder.{Row}
use Rattle.named_folder.specs.Names.{IsRowOf}

-- no two rows have one number
abbrev pub HaveOwnNumbers : List Row → Type 0
HaveOwnNumbers [] = Unit {0}
HaveOwnNumbers (row ∷ rows) = All (λ other. other.number ≢ row.number) rows × HaveOwnNumbers rows

-- The rows of the folder among the passes have numbers of their own. Each run leaves it so; another program may not.
pub record IsOrderly (size : ℕ) (passes : List Pass) : Type 0 where
  pub rows : List Row
  pub folder : HasFolder size passes rows
  pub own : HaveOwnNumbers rows

-- the folder among the passes names a file so, and that file has just these bytes
pub record HasNamed (size : ℕ) (name bytes : List ℕ) (passes : List Pass) : Type 0 where
  pub rows : List Row
  pub folder : HasFolder size passes rows
  pub row : Row
  pub named : IsRowOf name rows row
  pub count : row.bytes ≡ length bytes
  pub file : File
  pub there : file_at row.number passes ≡ Some file
  pub content : HasBytes size bytes file

-- a run put, removed or renamed what has such a name, one file or many, or deleted its file, or changed nothing
abbrev pub IsRunOn : (List ℕ → Type 0) → ℕ → List Pass → List Pass → Type 0
IsRunOn such size before after =
    ((name : List ℕ) × (bytes : List ℕ) × (number : ℕ) × such name × WasPut size name bytes number before after)
    ⊎ ((files : List NewFile) × All (λ file. such file.name.now) files × WerePut size files before after)
    ⊎ ((name : List ℕ) × such name × WasRemoved size name before after)
    ⊎ ((name : List ℕ) × (to : List ℕ) × such name × WasRenamed size name to before after)
    ⊎ ((name : List ℕ) × such name × WasDeleted size name before after)
    ⊎ (after ≡ before)
