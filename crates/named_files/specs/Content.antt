-- A block of a file.
use Rattle.std.specs.Prelude.{◌≡◌, ◌<◌, ◌≤◌, ℕ}
use Rattle.geometry.specs.File.{File, Block, bytes_at}
use Rattle.image_reading.specs.Content.{front_bytes}

-- the file reaches past the index and has this block there, and in front of it the bytes that it had
pub record IsBlockSet (size index : ℕ) (block : Block) (before after : File) : Type 0 where
  pub reaches : index < after.length
  pub here : bytes_at size after index ≡ block
  pub front : (n : ℕ) → n ≤ index → front_bytes size after n ≡ front_bytes size before n
