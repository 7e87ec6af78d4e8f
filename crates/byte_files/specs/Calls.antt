-- What calls do to the bytes of a file, whichever it has.
use Rattle.std.specs.Prelude.{◌≡◌, ◌<◌, ◌⊎◌, ◌++◌, ℕ, List, length, replicate}
use Rattle.byte_files.specs.Bytes.{HasBytes, written_at, truncated}
use Rattle.file_cells.specs.Pass.{Pass}
use Rattle.geometry.specs.File.{File}
use Rattle.geometry.specs.declared.error.Error.{Error}
use Rattle.geometry.specs.declared.error.Error.TheVariants.{TooFar, Wounded, NoMemory, NoNode, NoSpace, Device}

-- bytes were written at a place
abbrev pub IsWrittenAt : ℕ → ℕ → List ℕ → File → File → Type 0
IsWrittenAt size at laid before after = (bytes : List ℕ) → HasBytes size bytes before → HasBytes size (written_at bytes at laid) after

-- bytes were put behind the so many that the file had
abbrev pub IsAppended : ℕ → ℕ → List ℕ → File → File → Type 0
IsAppended size count laid before after = (bytes : List ℕ) → length bytes ≡ count → HasBytes size bytes before → HasBytes size (bytes ++ laid) after

-- the file has just so many bytes left
abbrev pub IsTruncated : ℕ → ℕ → File → File → Type 0
IsTruncated size count before after = (bytes : List ℕ) → HasBytes size bytes before → HasBytes size (truncated bytes count) after

-- nothing changed, or less than a block of zeros was written at a place
abbrev pub IsWiped : ℕ → ℕ → Pass → Pass → Type 0
IsWiped size at before after = (after ≡ before) ⊎ ((zeros : ℕ) × (zeros < size) × IsWrittenAt size at (replicate zeros 0) before.file after.file)

-- a file keeps its number and its kind
abbrev pub IsSameFile : Pass → Pass → Type 0
IsSameFile before after = (after.number ≡ before.number) × (after.file.kind ≡ before.file.kind)
