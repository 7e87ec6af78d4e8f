-- What a name of a file is.
use Rattle.std.specs.Prelude.{◌≢◌, ◌<◌, ◌≤◌, ℕ, List, All, length, codes}

-- a byte that a name may have: no slash, and no control character
abbrev pub IsNameByte : ℕ → Type 0
IsNameByte byte = (32 ≤ byte) × (byte ≢ 47) × (byte ≢ 127)

-- 1 to 255 of them, and neither . nor ..
pub record IsName (name : List ℕ) : Type 0 where
  pub some : 0 < length name
  pub short : length name ≤ 255
  pub plain : All IsNameByte name
  pub not_here : name ≢ codes "."
  pub not_above : name ≢ codes ".."
