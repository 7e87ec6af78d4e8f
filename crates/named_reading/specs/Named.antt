-- What the files of an image have under names. Each file stands beside its number, and the folder is file 1.
use Rattle.std.specs.Prelude.{◌≡◌, ℕ, List, take}
use Rattle.geometry.specs.File.{File}
use Rattle.image_law.specs.Items.{Among}
use Rattle.image_reading.specs.Content.{all_bytes}
use Rattle.named_folder.specs.Folder.{Row, BeginsWith}
use Rattle.named_folder.specs.Names.{IsRowOf}

-- the folder among the files, where a block has so many bytes, has these rows
pub record HasFolder (size : ℕ) (files : List (ℕ × File)) (rows : List Row) : Type 0 where
  pub folder : File
  pub here : Among (1, folder) files
  pub spelled : BeginsWith rows (all_bytes size folder)

-- the folder names a file so, and that file has these bytes
pub record HasFile (size : ℕ) (files : List (ℕ × File)) (name bytes : List ℕ) : Type 0 where
  pub rows : List Row
  pub in_folder : HasFolder size files rows
  pub row : Row
  pub named : IsRowOf name rows row
  pub file : File
  pub there : Among (row.number, file) files
  pub content : bytes ≡ take row.bytes (all_bytes size file)

-- the blocks of the file of this number have these bytes
pub record HasNumber (size : ℕ) (files : List (ℕ × File)) (number : ℕ) (bytes : List ℕ) : Type 0 where
  pub file : File
  pub there : Among (number, file) files
  pub content : bytes ≡ all_bytes size file
