-- What the passes of a volume show of named files.
use Rattle.std.specs.Prelude.{◌≡◌, ◌≢◌, ◌<◌, ◌^◌, ◌⊎◌, ℕ, zero, suc, ◌==◌, if◌then◌else◌, List, [], ◌∷◌, Option, Some, None, All, length, take}
use Rattle.file_cells.specs.Pass.{Pass}
use Rattle.geometry.specs.File.{File}
use Rattle.image_reading.specs.Content.{all_bytes}
use Rattle.byte_files.specs.Bytes.{HasBytes}
use Rattle.named_folder.specs.Folder.{Row, BeginsWith, IsRow}
use Rattle.named_folder.specs.Name.{IsName}
use Rattle.named_folder.specs.Names.{HasNoRow, IsRowOf, IsRowPlace, Removes, Renames, Renews}

-- the file of the first pass of a number
abbrev pub file_at : ℕ → List Pass → Option File
file_at number [] = None
file_at number (pass ∷ passes) = if pass.number == number then Some pass.file else file_at number passes

-- the first pass of the number stands here
abbrev pub IsPlace : ℕ → List Pass → ℕ → Type 0
IsPlace number [] place = ⊥
IsPlace number (pass ∷ passes) zero = pass.number ≡ number
IsPlace number (pass ∷ passes) (suc place) = (pass.number ≢ number) × IsPlace number passes place

-- the folder among the passes, where a block has so many bytes, has these rows
pub record HasFolder (size : ℕ) (passes : List Pass) (rows : List Row) : Type 0 where
  pub folder : File
  pub here : file_at 1 passes ≡ Some folder
  pub spelled : BeginsWith rows (all_bytes size folder)

-- the folder among the passes has these rows, and the first of the name stands here
pub record IsNamedAt (size : ℕ) (name : List ℕ) (passes : List Pass) (rows : List Row) (place : ℕ) : Type 0 where
  pub folder : HasFolder size passes rows
  pub here : IsRowPlace name rows place

-- the folder among the passes names a file so, whose bytes are these: as many as the folder tells
pub record IsRead (size : ℕ) (name bytes : List ℕ) (passes : List Pass) : Type 0 where
  pub rows : List Row
  pub folder : HasFolder size passes rows
  pub row : Row
  pub named : IsRowOf name rows row
  pub file : File
  pub there : file_at row.number passes ≡ Some file
  pub content : bytes ≡ take row.bytes (all_bytes size file)

-- the file of this number has the bytes, and all others are as they were
pub record WasWritten (size : ℕ) (bytes : List ℕ) (number : ℕ) (before after : List Pass) : Type 0 where
  pub file : File
  pub there : file_at number after ≡ Some file
  pub content : HasBytes size bytes file
  pub others : (n : ℕ) → n ≢ number → file_at n after ≡ file_at n before

-- a file of the number is among the passes
abbrev pub IsThere : List Pass → ℕ → Type 0
IsThere passes number = (file : File) × (file_at number passes ≡ Some file)

-- the number is that of the name's row; where the name has none, no row and no file has it
abbrev pub IsNumberFor : List ℕ → ℕ → List Row → List Pass → Type 0
IsNumberFor name number rows passes =
    ((row : Row) × IsRowOf name rows row × (row.number ≡ number)) ⊎ (HasNoRow name rows × All (λ row. row.number ≢ number) rows × (file_at number passes ≡ None))

-- the name is one, the folder names the file of this number so, that file has the bytes, and all other rows and files are as they were
pub record WasPut (size : ℕ) (name bytes : List ℕ) (number : ℕ) (before after : List Pass) : Type 0 where
  pub is_name : IsName name
  pub rows : List Row
  pub had_folder : HasFolder size before rows
  pub own : IsNumberFor name number rows before
  pub renewed : List Row
  pub has_folder : HasFolder size after renewed
  pub renews : Renews (record { name = name; number = number; bytes = length bytes }) rows renewed
  pub file : File
  pub there : file_at number after ≡ Some file
  pub content : HasBytes size bytes file
  pub others : (n : ℕ) → n ≢ 1 → n ≢ number → file_at n after ≡ file_at n before

-- the name is one, the new rows tell the number of a file that has the bytes, and all other rows and files are as they were; the folder's file too
pub record WasEntered (size : ℕ) (name bytes : List ℕ) (number : ℕ) (rows renewed : List Row) (before after : List Pass) : Type 0 where
  pub is_name : IsName name
  pub own : IsNumberFor name number rows before
  pub renews : Renews (record { name = name; number = number; bytes = length bytes }) rows renewed
  pub not_folder : 1 < number
  pub written : WasWritten size bytes number before after
  pub are_rows : All IsRow renewed
  pub few : length renewed < 2 ^ 64

-- the name's file is gone from the passes and all others are as they were, the folder's too, and these are its rows without the name's
pub record WasTaken (size : ℕ) (name : List ℕ) (before after : List Pass) (left : List Row) : Type 0 where
  pub rows : List Row
  pub had_folder : HasFolder size before rows
  pub row : Row
  pub named : IsRowOf name rows row
  pub not_folder : 1 < row.number
  pub removes : Removes name rows left
  pub are_rows : All IsRow left
  pub gone : file_at row.number after ≡ None
  pub others : (n : ℕ) → n ≢ row.number → file_at n after ≡ file_at n before

-- the name is gone from the folder and its file from the passes, and all others are as they were
pub record WasRemoved (size : ℕ) (name : List ℕ) (before after : List Pass) : Type 0 where
  pub rows : List Row
  pub had_folder : HasFolder size before rows
  pub row : Row
  pub named : IsRowOf name rows row
  pub left : List Row
  pub has_folder : HasFolder size after left
  pub removes : Removes name rows left
  pub gone : file_at row.number after ≡ None
  pub others : (n : ℕ) → n ≢ 1 → n ≢ row.number → file_at n after ≡ file_at n before

-- the name's file is gone from the passes, and all others are as they were, so the folder still has the name
pub record WasDeleted (size : ℕ) (name : List ℕ) (before after : List Pass) : Type 0 where
  pub rows : List Row
  pub had_folder : HasFolder size before rows
  pub row : Row
  pub named : IsRowOf name rows row
  pub has_folder : HasFolder size after rows
  pub gone : file_at row.number after ≡ None
  pub others : (n : ℕ) → n ≢ row.number → file_at n after ≡ file_at n before

-- the folder has another name for the file, which no row had, and all files are as they were
pub record WasRenamed (size : ℕ) (name to : List ℕ) (before after : List Pass) : Type 0 where
  pub rows : List Row
  pub had_folder : HasFolder size before rows
  pub is_name : IsName to
  pub free : HasNoRow to rows
  pub renamed : List Row
  pub has_folder : HasFolder size after renamed
  pub renames : Renames name to rows renamed
  pub others : (n : ℕ) → n ≢ 1 → file_at n after ≡ file_at n before
