-- What a source may show, by what it answered so far.
use Rattle.std.specs.Prelude.{◌≡◌, ℕ, List, All, length}
use Rattle.device.specs.Disk.{part}
use Rattle.image_reading.specs.declared.seen.SeenBytes.{SeenBytes}

-- more was answered, so no more is shown
abbrev pub Narrows : (List ℕ → Type 0) → (List ℕ → Type 0) → Type 0
Narrows before after = (bytes : List ℕ) → after bytes → before bytes

-- each part that was read stands at its place
abbrev pub HaveParts : List (ℕ × SeenBytes) → List ℕ → Type 0
HaveParts reads bytes = All (λ read. read.1.items ≡ part read.0 (length read.1.items) bytes) reads

-- each length that was told is theirs
abbrev pub HaveLengths : List (ℕ × Unit {0}) → List ℕ → Type 0
HaveLengths sizes bytes = All (λ told. length bytes ≡ told.0) sizes
