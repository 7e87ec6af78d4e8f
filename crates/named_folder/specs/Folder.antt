-- How a folder is spelled: a mark, how many rows it has, and its rows one after the other.
use Rattle.std.specs.Prelude.{◌≡◌, ◌<◌, ◌^◌, ◌++◌, ℕ, List, All, IsUtf8, length, codes}
use Rattle.std.specs.Int.{w32, w64, to_le_bytes}
use Rattle.std.specs.List.{flat_map}

-- a name, the number of the file that has its bytes, and how many bytes that file has
pub record Row : Type 0 where
  pub name : List ℕ
  pub number : ℕ
  pub bytes : ℕ

-- the name is text, and the numbers fit their places; the folder itself is file 1, which no row names
pub record IsRow (row : Row) : Type 0 where
  pub text : IsUtf8 row.name
  pub not_folder : 1 < row.number
  pub number_fits : row.number < 2 ^ 32
  pub bytes_fit : row.bytes < 2 ^ 64
  pub length_fits : length row.name < 2 ^ 64

abbrev pub row_bytes : Row → List ℕ
row_bytes row = to_le_bytes w32 row.number ++ to_le_bytes w64 row.bytes ++ to_le_bytes w64 (length row.name) ++ row.name

abbrev pub folder_bytes : List Row → List ℕ
folder_bytes rows = codes "RUSZDIR1" ++ to_le_bytes w64 (length rows) ++ flat_map row_bytes rows

-- the bytes begin with the folder of these rows; what comes behind it says nothing
pub record BeginsWith (rows : List Row) (bytes : List ℕ) : Type 0 where
  pub are_rows : All IsRow rows
  pub few : length rows < 2 ^ 64
  pub behind : List ℕ
  pub spelled : bytes ≡ folder_bytes rows ++ behind
