-- The bytes of a file, and what a read, a write and a truncation at any place of them give.
use Rattle.std.specs.Prelude.{◌≡◌, ◌<◌, ◌+◌, ◌-◌, ◌++◌, ℕ, List, [], ◌∷◌, length, take, drop, replicate}
use Rattle.flash_volume.specs.Answers.{laid_over}
use Rattle.geometry.specs.File.{File}
use Rattle.image_reading.specs.Content.{all_bytes}

-- the blocks of the file have these bytes, and then zeros to the end of the last block
pub record HasBytes (size : ℕ) (bytes : List ℕ) (file : File) : Type 0 where
  pub zeros : ℕ
  pub in_last_block : zeros < size
  pub spelled : all_bytes size file ≡ bytes ++ replicate zeros 0

-- so many bytes at least: zeros stand behind where there are fewer
abbrev pub extended : List ℕ → ℕ → List ℕ
extended bytes count = bytes ++ replicate (count - length bytes) 0

-- so many bytes from a place on, zeros past the end
abbrev pub read_from : List ℕ → ℕ → ℕ → List ℕ
read_from bytes at count = take count (drop at (extended bytes (at + count)))

-- What a write of these bytes at a place makes of a file's bytes: zeros fill what lies between its end and the place. A write of none
-- changes nothing.
abbrev pub written_at : List ℕ → ℕ → List ℕ → List ℕ
written_at bytes at [] = bytes
written_at bytes at (byte ∷ laid) = laid_over (extended bytes at) at (byte ∷ laid)

-- just so many bytes: those in front, and zeros where there are fewer
abbrev pub truncated : List ℕ → ℕ → List ℕ
truncated bytes count = take count (extended bytes count)
