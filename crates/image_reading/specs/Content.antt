-- The bytes of a file's blocks, one after the other.
use Rattle.std.specs.Prelude.{◌++◌, ℕ, zero, suc, List, []}
use Rattle.geometry.specs.File.{File, bytes_at}

-- the bytes of the first n blocks, where a block has so many
abbrev pub front_bytes : ℕ → File → ℕ → List ℕ
front_bytes size file zero = []
front_bytes size file (suc n) = front_bytes size file n ++ bytes_at size file n

abbrev pub all_bytes : ℕ → File → List ℕ
all_bytes size file = front_bytes size file file.length
