-- How a disk is told.
use Rattle.std.specs.Prelude.{◌++◌, ℕ, Bool, true, false, List, [], replicate}
use Rattle.std.specs.Int.{w16, w32, w64, to_be_bytes}

-- the flags HAS_FLAGS (1) and SEND_FLUSH (4); READ_ONLY (2), or SEND_FUA (8), SEND_TRIM (32) and SEND_WRITE_ZEROES (64)
abbrev pub export_flags : Bool → ℕ
export_flags true = 7
export_flags false = 109

abbrev pub export_bytes : ℕ → ℕ → List ℕ
export_bytes size flags = to_be_bytes w16 0 ++ (to_be_bytes w64 size ++ to_be_bytes w16 flags)

-- the zeros behind the answer to EXPORT_NAME
abbrev pub padding : Bool → List ℕ
padding true = []
padding false = replicate 124 0

abbrev pub old_export_bytes : ℕ → ℕ → Bool → List ℕ
old_export_bytes size flags no_zeroes = to_be_bytes w64 size ++ (to_be_bytes w16 flags ++ padding no_zeroes)

abbrev pub block_size_bytes : ℕ → ℕ → ℕ → List ℕ
block_size_bytes least best most = to_be_bytes w16 3 ++ (to_be_bytes w32 least ++ (to_be_bytes w32 best ++ to_be_bytes w32 most))
