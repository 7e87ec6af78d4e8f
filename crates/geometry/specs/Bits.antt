-- A list of bits in words of 64, the lowest first.
use Rattle.std.specs.Prelude.{ℕ, ◌/◌, ◌%◌, ◌==◌, List, Bool, map, slice_index}
use Rattle.std.specs.List.{range_with_len}
use Rattle.std.specs.Int.{bit_at}

-- bit o of the words
abbrev pub is_bit : List ℕ → ℕ → Bool
is_bit words o = bit_at (slice_index words (o / 64)) (o % 64) == 1

-- the first bits of the words, as a list
abbrev pub bits_of : List ℕ → ℕ → List Bool
bits_of words len = map (λ o. is_bit words o) (range_with_len 0 len)
