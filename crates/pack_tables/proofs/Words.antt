-- A byte of a word has the eight bits from eight times its place on, and a byte of a bitmap is the number of eight bits: so
-- the bytes of words, the lowest first and zeros behind them, are the bitmap of the words' bits.
use Rattle.std.proofs.Common.{◌≡◌, refl, sym, ◌∙◌, ap, ℕ, zero, suc, ◌+◌, ◌-◌, ◌*◌, ◌/◌, ◌%◌, ◌^◌, ◌<◌, ◌≤◌, min, Bool, true, false, eqb, List, [], ◌∷◌, ◌++◌, length, take, drop, get_or, replicate, ⊎_elim, arith, length-drop, length-append, add-one}
use Rattle.std.specs.Prelude.{◌==◌, slice_index}
use Rattle.std.specs.List.{flat_map}
use Rattle.std.specs.Int.{bit_at}
use Rattle.std.proofs.lemmas.Bool.{cases_lt}
use Rattle.std.proofs.lemmas.List.{same_lists, get_or-take, get_or-drop, get_or_default, get_or_past, get_or_append_left, get_or-append_right, drop-drop, drop-replicate, length-replicate, length-take-le, take_min}
use Rattle.std.proofs.lemmas.List.FromFn.{length-map-range_with_len, get_or-map-range_with_len}
use Rattle.std.proofs.lemmas.Nat.{shr-shr, shr_le, mod-pow-add}
use Rattle.std.proofs.lemmas.Nat.Bits.{bit_at_lowest, bit_at-suc}
use Rattle.byteorder.specs.Endian.{little_bytes}
use Rattle.geometry.specs.Bits.{is_bit, bits_of}
use Rattle.image.specs.Pack.{bits_number, bitmap}
use Rattle.image.specs.Reading.{number_bits}
use Rattle.pack_tables.proofs.Bits.{length-number_bits, length-bitmap}

-- byte k of the words
abbrev byte_in : List ℕ → ℕ → ℕ
byte_in words k = slice_index words (k / 8) / 2 ^ (8 * (k % 8)) % 256

-- ---- the number of a word's bits

lowest_worth : (n : ℕ) (t : Bool) (bits : List Bool) → t ≡ eqb (n % 2) 1 → bits_number (t ∷ bits) ≡ n % 2 + 2 * bits_number bits
lowest_worth n true bits is = grind (arith, is)
lowest_worth n false bits is = grind (arith, is)

-- the lowest bits of a number
lowest_bits : (n number : ℕ) → bits_number (number_bits n number) ≡ number % 2 ^ n
lowest_bits zero number = omega arith
lowest_bits (suc n) number =
    let here = lowest_worth number (eqb (number % 2) 1) (number_bits n (number / 2)) refl in
    let rest = lowest_bits n (number / 2) in
    let whole : number % 2 ^ suc n ≡ number / 2 % 2 ^ n * 2 + number % 2
    = ap (λ m. number % 2 ^ m) (sym (add-one n)) ∙ mod-pow-add number n 1 in
    here ∙ omega arith

bit_of_number : (n number i : ℕ) (d : Bool) → i < n → get_or (number_bits n number) i d ≡ (bit_at number i == 1)
bit_of_number zero number i d low = absurd (omega arith)
bit_of_number (suc n) number zero d low = ap (λ v. v == 1) (sym (bit_at_lowest number))
bit_of_number (suc n) number (suc i) d low = bit_of_number n (number / 2) i d (omega arith) ∙ ap (λ v. v == 1) (sym (bit_at-suc number i))

-- eight of the words' bits
eight_listed : (words : List ℕ) (len k : ℕ) → 8 * k + 8 ≤ len → take 8 (drop (8 * k) (bits_of words len)) ≡ number_bits 8 (slice_index words (k / 8) / 2 ^ (8 * (k % 8)))
eight_listed words len k within =
    let bits = bits_of words len in
    let long : length bits ≡ len = length-map-range_with_len (is_bit words) 0 len in
    let left : length (drop (8 * k) bits) ≡ length bits - 8 * k = length-drop (8 * k) bits in
    let eight : length (take 8 (drop (8 * k) bits)) ≡ 8 = length-take-le 8 (drop (8 * k) bits) (omega arith) in
    let from = 8 * (k % 8) in
    let word = slice_index words (k / 8) in
    same_lists _ _ (eight ∙ sym (length-number_bits 8 (word / 2 ^ from)))
    (λ i d low.
    let few : i < 8 = omega arith in
    let quotient : (8 * k + i) / 64 ≡ k / 8 = omega arith in
    let rest : (8 * k + i) % 64 ≡ from + i = omega arith in
    get_or-take 8 (drop (8 * k) bits) i d few
    ∙ get_or-drop (8 * k) bits i d
    ∙ get_or-map-range_with_len (is_bit words) 0 len (8 * k + i) (8 * k + i) d (omega arith) (omega arith)
    ∙ ap (λ j. bit_at (slice_index words j) ((8 * k + i) % 64) == 1) quotient
    ∙ ap (λ j. bit_at word j == 1) rest
    ∙ ap (λ v. v % 2 == 1) (sym (shr-shr word from i))
    ∙ sym (bit_of_number 8 (word / 2 ^ from) i d few))

bitmap_listed : (n : ℕ) (bits : List Bool) (k d : ℕ) → k < n → get_or (bitmap n bits) k d ≡ bits_number (take 8 (drop (8 * k) bits))
bitmap_listed zero bits k d low = absurd (omega arith)
bitmap_listed (suc n) bits zero d low = refl
bitmap_listed (suc n) bits (suc k) d low =
    let more : 8 + 8 * k ≡ 8 * suc k = omega arith in
    bitmap_listed n (drop 8 bits) k d (omega arith)
    ∙ ap (λ l. bits_number (take 8 l)) (drop-drop (8 * k) 8 bits ∙ ap (λ m. drop m bits) more)

-- ---- the words' bytes

byte_here : (w j d : ℕ) → j < 8 → get_or (little_bytes 8 w) j d ≡ w / 2 ^ (8 * j) % 256
byte_here w zero d low = omega arith
byte_here w (suc zero) d low = refl
byte_here w (suc (suc zero)) d low = refl
byte_here w (suc (suc (suc zero))) d low = refl
byte_here w (suc (suc (suc (suc zero)))) d low = refl
byte_here w (suc (suc (suc (suc (suc zero))))) d low = refl
byte_here w (suc (suc (suc (suc (suc (suc zero)))))) d low = refl
byte_here w (suc (suc (suc (suc (suc (suc (suc zero))))))) d low = refl
byte_here w (suc (suc (suc (suc (suc (suc (suc (suc j)))))))) d low = absurd (omega arith)

no_byte : (k : ℕ) → 0 / 2 ^ k % 256 ≡ 0
no_byte k = let none = shr_le 0 k in let is : 0 / 2 ^ k ≡ 0 = omega arith in ap (λ v. v % 256) is

bytes_listed : (words : List ℕ) (k : ℕ) → get_or (flat_map (little_bytes 8) words) k 0 ≡ byte_in words k
bytes_listed [] k = sym (no_byte (8 * (k % 8)))
bytes_listed (w ∷ words) k = ⊎_elim
    (λ low.
    let quotient : 0 ≡ k / 8 = omega arith in
    let rest : k ≡ k % 8 = omega arith in
    get_or_append_left (little_bytes 8 w) (flat_map (little_bytes 8) words) 0 k low
    ∙ byte_here w k 0 low
    ∙ ap (λ j. w / 2 ^ (8 * j) % 256) rest
    ∙ ap (λ j. slice_index (w ∷ words) j / 2 ^ (8 * (k % 8)) % 256) quotient)
    (λ high.
    let quotient : suc ((k - 8) / 8) ≡ k / 8 = omega arith in
    let rest : (k - 8) % 8 ≡ k % 8 = omega arith in
    get_or-append_right (little_bytes 8 w) (flat_map (little_bytes 8) words) 8 k 0 refl high
    ∙ bytes_listed words (k - 8)
    ∙ ap (λ j. slice_index words ((k - 8) / 8) / 2 ^ (8 * j) % 256) rest
    ∙ ap (λ j. slice_index (w ∷ words) j / 2 ^ (8 * (k % 8)) % 256) quotient)
    (cases_lt k 8)

zeros_change_nothing : (bytes : List ℕ) (n k : ℕ) → get_or (bytes ++ replicate n 0) k 0 ≡ get_or bytes k 0
zeros_change_nothing bytes n k = ⊎_elim
    (λ low. get_or_append_left bytes (replicate n 0) 0 k low)
    (λ high. get_or-append_right bytes (replicate n 0) (length bytes) k 0 refl high ∙ all_zero n (k - length bytes) ∙ sym (get_or_past bytes k 0 high))
    (cases_lt k (length bytes))
  where
    all_zero : (n i : ℕ) → ◌≡◌ {A = ℕ} (get_or (replicate n 0) i 0) 0
    all_zero zero i = refl
    all_zero (suc n) zero = refl
    all_zero (suc n) (suc i) = all_zero n i

words_long : (words : List ℕ) → length (flat_map (little_bytes 8) words) ≡ 8 * length words
words_long [] = refl
words_long (w ∷ words) = let e = words_long words in omega arith

-- the bytes that were written over zeros are the bitmap of the words' bits
pub words_spelled : (count : ℕ) (words some : List ℕ) → count ≤ 64 → some ≡ take (min (length words) 8) words → length some ≤ 8
    → take count (flat_map (little_bytes 8) some ++ drop (8 * length some) (replicate 64 0)) ≡ bitmap count (bits_of words (8 * count))
words_spelled count words some few front short =
    let written = flat_map (little_bytes 8) some in
    let zeros : List ℕ = replicate (64 - 8 * length some) 0 in
    let behind : drop (8 * length some) (replicate 64 0) ≡ zeros = drop-replicate (8 * length some) 64 0 in
    let long : length (written ++ zeros) ≡ 64 = all_long in
    let bits = bits_of words (8 * count) in
    ap (λ z. take count (written ++ z)) behind
    ∙ same_lists _ _ (length-take-le count (written ++ zeros) (omega arith) ∙ sym (length-bitmap count bits))
    (λ k d low.
    let taken : length (take count (written ++ zeros)) ≡ count = length-take-le count (written ++ zeros) (omega arith) in
    let below : k < count = omega arith in
    get_or-take count (written ++ zeros) k d below
    ∙ get_or_default (written ++ zeros) k d 0 (omega arith)
    ∙ zeros_change_nothing written (64 - 8 * length some) k
    ∙ bytes_listed some k
    ∙ ap (λ w. w / 2 ^ (8 * (k % 8)) % 256) (seen (k / 8) (omega arith))
    ∙ sym (bitmap_listed count bits k d below ∙ ap bits_number (eight_listed words (8 * count) k (omega arith)) ∙ lowest_bits 8 _))
  where
    all_long : length (flat_map (little_bytes 8) some ++ replicate (64 - 8 * length some) 0) ≡ 64
    all_long =
        let a = words_long some in
        let b = length-replicate {A = ℕ} (64 - 8 * length some) 0 in
        let c = length-append (flat_map (little_bytes 8) some) (replicate (64 - 8 * length some) 0) in
        omega arith

    seen : (j : ℕ) → j < 8 → slice_index some j ≡ slice_index words j
    seen j low =
        let same : min (length words) 8 ≡ min 8 (length words) = omega arith in
        ap (λ (l : List ℕ). get_or l j 0) (front ∙ ap (λ n. take n words) same ∙ take_min 8 words) ∙ get_or-take 8 words j 0 low
