-- The words that have a list of bits, and which bits are the first.
use Rattle.std.specs.Prelude.{◌≡◌, ℕ, ◌+◌, ◌*◌, ◌^◌, ◌<◌, ◌≤◌, ◌==◌, List, [], ◌∷◌, length, map, slice_index_or, Bool, true, false, Option, Some, None}
use Rattle.std.specs.List.{range_with_len}
use Rattle.std.specs.Int.{bit_at}
use Rattle.geometry.specs.Bits.{is_bit}

-- the words have room for so many bits, none is without use, and what is past the bits is clear
pub record IsBits (words : List ℕ) (len : ℕ) : Type 0 where
  pub few : len < 2 ^ 32
  pub enough : len ≤ 64 * length words
  pub tight : 64 * length words < len + 64
  pub past : (o : ℕ) → len ≤ o → is_bit words o ≡ false

-- the least set bit of a word from a place on
abbrev pub IsFirstBit : ℕ → ℕ → Option ℕ → Type 0
IsFirstBit word from None = (i : ℕ) → from ≤ i → bit_at word i ≡ 0
IsFirstBit word from (Some o) = (from ≤ o) × (o < 64) × (bit_at word o ≡ 1) × ((i : ℕ) → from ≤ i → i < o → bit_at word i ≡ 0)

-- the least true place of a list from a place on
abbrev pub IsFirstTrue : List Bool → ℕ → Option ℕ → Type 0
IsFirstTrue bits from None = (o : ℕ) → from ≤ o → slice_index_or bits o false ≡ false
IsFirstTrue bits from (Some o) = (from ≤ o) × (o < length bits) × (slice_index_or bits o false ≡ true) × ((p : ℕ) → from ≤ p → p < o → slice_index_or bits p false ≡ false)

-- true where both are false
abbrev pub neither : Bool → Bool → Bool
neither false false = true
neither false true = false
neither true b = false

-- the places that are clear in both lists, of which the second has as many places as the first
abbrev pub neither_of : List Bool → List Bool → List Bool
neither_of one other = map (λ o. neither (slice_index_or one o false) (slice_index_or other o false)) (range_with_len 0 (length one))

-- whether one is true
abbrev pub has_true : List Bool → Bool
has_true [] = false
has_true (true ∷ bits) = true
has_true (false ∷ bits) = has_true bits

-- the bits of a word below a place are set, and no others
pub record AreFirstBits (count word : ℕ) : Type 0 where
  pub set : (i : ℕ) → i < 64 → i < count → bit_at word i ≡ 1
  pub clear : (i : ℕ) → count ≤ i → bit_at word i ≡ 0

-- a bit of the word is set where it is below a place and clear in both
pub record AreClearBits (one other count word : ℕ) : Type 0 where
  pub below : (i : ℕ) → i < 64 → i < count → (bit_at word i == 1) ≡ neither (bit_at one i == 1) (bit_at other i == 1)
  pub past : (i : ℕ) → count ≤ i → (bit_at word i == 1) ≡ false
