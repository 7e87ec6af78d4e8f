-- How requests and answers are spelled: numbers one after the other, each with its highest byte first.
use Rattle.std.specs.Prelude.{◌<◌, ◌^◌, ◌++◌, ◌==◌, if◌then◌else◌, ℕ, List}
use Rattle.std.specs.Int.{w16, w32, w64, to_be_bytes}

-- what a request says
pub record Words : Type 0 where
  pub flags : ℕ
  pub kind : ℕ
  pub cookie : ℕ
  pub offset : ℕ
  pub length : ℕ

pub record AreWords (words : Words) : Type 0 where
  pub flags : words.flags < 2 ^ 16
  pub kind : words.kind < 2 ^ 16
  pub cookie : words.cookie < 2 ^ 64
  pub offset : words.offset < 2 ^ 64
  pub length : words.length < 2 ^ 32

abbrev pub request_bytes : Words → List ℕ
request_bytes words =
    to_be_bytes w32 627086611 ++ (to_be_bytes w16 words.flags ++ (to_be_bytes w16 words.kind
    ++ (to_be_bytes w64 words.cookie ++ (to_be_bytes w64 words.offset ++ to_be_bytes w32 words.length))))

-- a WRITE (1) has data behind it
abbrev pub data_bytes : Words → ℕ
data_bytes words = if words.kind == 1 then words.length else 0

abbrev pub reply_bytes : ℕ → ℕ → List ℕ
reply_bytes error cookie = to_be_bytes w32 1732535960 ++ (to_be_bytes w32 error ++ to_be_bytes w64 cookie)
