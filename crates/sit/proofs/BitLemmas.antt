-- A bit's place is a word and a place in it, quotient and remainder by 64: so turning one bit of one word changes one
-- item of the list, and the first one is in the first word that has any.
use Rattle.std.proofs.Common.{◌≡◌, ◌≢◌, ℕ, zero, suc, ◌+◌, ◌-◌, ◌*◌, ◌/◌, ◌%◌, ◌^◌, ◌<◌, ◌≤◌, min, max, List, [], ◌∷◌, length, get_or, set, replicate, Bool, true, false, Option, Some, None, refl, sym, ap, ◌∙◌, ⊎_elim, inl, inr, arith}
use Rattle.std.specs.Prelude.{◌==◌, is_some, nat_lt, if◌then◌else◌, map}
use Rattle.std.specs.List.{range_with_len}
use Rattle.std.proofs.lemmas.Bool.{lt-ltb, le-ltb}
use Rattle.std.specs.Int.{bit_at, w64, bit_not, trailing_zeros}
use Rattle.std.specs.Int.RustNames.{bit_or}
use lib.Bits.{bit_and}
use mathlib.Core.Logic.{dite}
use native.Mathlib.Decide.{ℕ_discrete}
use Rattle.std.proofs.lemmas.List.{get_or_read_under, get_or-set_same, get_or-set_other, get_or_past, get_or_default, length-set, same_lists, length-replicate}
use Rattle.std.proofs.lemmas.Bool.{cases_lt}
use Rattle.std.proofs.lemmas.List.FromFn.{length-map-range_with_len, get_or-map-range_with_len}
use Rattle.std.proofs.lemmas.Nat.Bits.{bit_at-zero, bit_at_set_same, bit_at_set_other, bit_at_clear_same, bit_at_clear_other, bit_at-trailing_zeros, bit_at_above, bit_at_and, bit_at_or, bit_at_not, bit_at-lt, bit_at_ones, bit_at_ones_above, same_from_bits_below}
use Rattle.std.proofs.lemmas.Nat.{shr-shr, shr_le, or_lt}
use Rattle.std.proofs.Math.Pow.{pow-lt}
use Rattle.geometry.specs.Bits.{is_bit, bits_of}
use Rattle.sit.specs.Bits.{IsBits, IsFirstBit, IsFirstTrue, AreFirstBits, AreClearBits, neither, neither_of, has_true}

-- a word whose bit at p becomes b
abbrev pub TurnsBit : ℕ → ℕ → ℕ → ℕ → Type 0
TurnsBit old p b new = (bit_at new p ≡ b) × ((i : ℕ) → i < 64 → i ≢ p → bit_at new i ≡ bit_at old i)

pub turns_set : (old p : ℕ) → p < 64 → TurnsBit old p 1 (bit_or old (1 * 2 ^ p % 2 ^ 64))
turns_set old p within = (bit_at_set_same w64 old p within, λ i in_word other. bit_at_set_other w64 old p within i other)

pub turns_clear : (old p : ℕ) → p < 64 → TurnsBit old p 0 (bit_and old (bit_not w64 (1 * 2 ^ p % 2 ^ 64)))
turns_clear old p within = (bit_at_clear_same w64 old p within, λ i in_word other. bit_at_clear_other w64 old p within i in_word other)

-- the word that has bit o was read, and is written again with that bit turned to b
module _ (words : List ℕ) (o b seen new : ℕ) (within : o < 64 * length words) (read : seen ≡ get_or words (o / 64) 0) (turns : TurnsBit seen (o % 64) b new) where
  in_words : o / 64 < length words
  in_words = omega arith

  here : is_bit (set words (o / 64) new) o ≡ (b == 1)
  here = ap (λ w. bit_at w (o % 64) == 1) (get_or-set_same words (o / 64) new 0 in_words) ∙ ap (λ v. v == 1) turns.0

  there : (q : ℕ) → q ≢ o → is_bit (set words (o / 64) new) q ≡ is_bit words q
  there q apart = dite (ℕ_discrete (q / 64) (o / 64))
      (λ same.
      let other : q % 64 ≢ o % 64 = λ e. apart (omega arith) in
      ap (λ j. bit_at (get_or (set words (o / 64) new) j 0) (q % 64) == 1) same
      ∙ ap (λ w. bit_at w (q % 64) == 1) (get_or-set_same words (o / 64) new 0 in_words)
      ∙ ap (λ v. v == 1) (turns.1 (q % 64) (omega arith) other)
      ∙ ap (λ w. bit_at w (q % 64) == 1) read
      ∙ ap (λ j. bit_at (get_or words j 0) (q % 64) == 1) (sym same))
      (λ other. ap (λ w. bit_at w (q % 64) == 1) (get_or-set_other words (o / 64) (q / 64) new 0 other))

  pub bits_of-turned : (len : ℕ) → o < len → bits_of (set words (o / 64) new) len ≡ set (bits_of words len) o (b == 1)
  bits_of-turned len inside =
      let long : length (bits_of words len) ≡ len = length-map-range_with_len _ 0 len in
      let long_new : length (bits_of (set words (o / 64) new) len) ≡ len = length-map-range_with_len _ 0 len in
      same_lists _ _ (long_new ∙ sym (length-set (bits_of words len) o (b == 1) ∙ long))
      (λ k d low.
      let below : k < len = omega arith in
      get_or-map-range_with_len (λ q. is_bit (set words (o / 64) new) q) 0 len k k d below (omega arith)
      ∙ dite (ℕ_discrete k o)
      (λ same. ap (λ q. is_bit (set words (o / 64) new) q) same ∙ here ∙ sym (ap (λ q. get_or (set (bits_of words len) o (b == 1)) q d) same ∙ get_or-set_same (bits_of words len) o (b == 1) d (omega arith)))
      (λ other. there k other ∙ sym (get_or-set_other (bits_of words len) o k (b == 1) d other ∙ get_or-map-range_with_len (λ q. is_bit words q) 0 len k k d below (omega arith))))

  pub turned-IsBits : (len : ℕ) → o < len → IsBits words len → IsBits (set words (o / 64) new) len
  turned-IsBits len inside is = record {
    few = is.few;
    enough = let e = length-set words (o / 64) new in let f = is.enough in omega arith;
    tight = let e = length-set words (o / 64) new in let f = is.tight in omega arith;
    past = λ q le. there q (λ e. absurd (omega arith)) ∙ is.past q le;
  }

zero_bit : (n q : ℕ) → is_bit (replicate n 0) q ≡ false
zero_bit n q = ap (λ w. bit_at w (q % 64) == 1) (all_zero n (q / 64)) ∙ ap (λ v. v == 1) (bit_at-zero (q % 64))
  where
    all_zero : (n i : ℕ) → ◌≡◌ {A = ℕ} (get_or (replicate n 0) i 0) 0
    all_zero zero i = refl
    all_zero (suc n) zero = refl
    all_zero (suc n) (suc i) = all_zero n i

pub clear-IsBits : (n len : ℕ) → len < 2 ^ 32 → len ≤ 64 * n → 64 * n < len + 64 → IsBits (replicate n 0) len
clear-IsBits n len few enough tight = record {
  few = few;
  enough = let e = length-replicate {A = ℕ} n 0 in omega arith;
  tight = let e = length-replicate {A = ℕ} n 0 in omega arith;
  past = λ q le. zero_bit n q;
}

pub get_or-false : (n i : ℕ) (d : Bool) → i < n → get_or (replicate n false) i d ≡ false
get_or-false zero i d within = absurd (omega arith)
get_or-false (suc n) zero d within = refl
get_or-false (suc n) (suc i) d within = get_or-false n i d (omega arith)

pub bits_of-clear : (n len : ℕ) → bits_of (replicate n 0) len ≡ replicate len false
bits_of-clear n len =
    let long : length (bits_of (replicate n 0) len) ≡ len = length-map-range_with_len _ 0 len in
    same_lists _ _ (long ∙ sym (length-replicate {A = Bool} len false))
    (λ k d low.
    let below : k < len = omega arith in
    get_or-map-range_with_len (λ q. is_bit (replicate n 0) q) 0 len k k d below (omega arith) ∙ zero_bit n k ∙ sym (get_or-false len k d below))

-- ---- the first set bit of a word

shifted : (word from i : ℕ) → bit_at (word / 2 ^ from) i ≡ bit_at word (from + i)
shifted word from i = ap (λ v. v % 2) (shr-shr word from i)

at_from : (word from i : ℕ) → from ≤ i → bit_at word i ≡ bit_at (word / 2 ^ from) (i - from)
at_from word from i le = let e : from + (i - from) ≡ i = omega arith in sym (shifted word from (i - from) ∙ ap (λ k. bit_at word k) e)

pub no_first : (word from : ℕ) → word / 2 ^ from ≡ 0 → IsFirstBit word from None
no_first word from none i le = at_from word from i le ∙ ap (λ w. bit_at w (i - from)) none ∙ bit_at-zero (i - from)

pub first_is : (word from : ℕ) → word < 2 ^ 64 → (word / 2 ^ from ≢ 0) → IsFirstBit word from (Some (from + trailing_zeros w64 (word / 2 ^ from)))
first_is word from fits some =
    let rest = word / 2 ^ from in
    let small : rest ≤ word = shr_le word from in
    let found = bit_at-trailing_zeros w64 rest (omega arith) (omega arith) in
    let t = trailing_zeros w64 rest in
    let one : bit_at word (from + t) ≡ 1 = sym (shifted word from t) ∙ found.1 in (
      (omega arith),
      ⊎_elim (λ lt. lt) (λ ge. absurd (let none = bit_at_above word 64 (from + t) fits ge in omega arith)) (cases_lt (from + t) 64),
      one,
      (λ i le lt. at_from word from i le ∙ found.2 (i - from) (omega arith)),
    )

-- ---- the first set bit of a list of words

-- no bit before the word at an index is set, and this word was read
module _ (words : List ℕ) (from index seen first : ℕ) (read : seen ≡ get_or words index 0) (start : first ≡ from - 64 * index) (before : (o : ℕ) → from ≤ o → o < 64 * index → is_bit words o ≡ false) where
  place_in : (o : ℕ) → 64 * index ≤ o → o < 64 * (index + 1) → is_bit words o ≡ (bit_at seen (o - 64 * index) == 1)
  place_in o le lt =
      let quotient : o / 64 ≡ index = omega arith in
      let rest : o % 64 ≡ o - 64 * index = omega arith in
      ap (λ j. bit_at (get_or words j 0) (o % 64) == 1) quotient ∙ ap (λ p. bit_at (get_or words index 0) p == 1) rest ∙ ap (λ w. bit_at w (o - 64 * index) == 1) (sym read)

  clear_to : (end : ℕ) → end ≤ 64 → ((i : ℕ) → first ≤ i → i < end → bit_at seen i ≡ 0) → (o : ℕ) → from ≤ o → o < 64 * index + end → is_bit words o ≡ false
  clear_to end le none o past lt = ⊎_elim
      (λ low. before o past low)
      (λ high. place_in o high (omega arith) ∙ ap (λ v. v == 1) (none (o - 64 * index) (omega arith) (omega arith)))
      (cases_lt o (64 * index))

  pub none_more : IsFirstBit seen first None → (o : ℕ) → from ≤ o → o < 64 * (index + 1) → is_bit words o ≡ false
  none_more none o past lt = clear_to 64 (omega arith) (λ i le small. none i le) o past (omega arith)

  module _ (len place : ℕ) (is : IsBits words len) (found : IsFirstBit seen first (Some place)) where
    is_one : is_bit words (64 * index + place) ≡ true
    is_one =
        let p = found.1 in
        let rest : 64 * index + place - 64 * index ≡ place = omega arith in
        place_in (64 * index + place) (omega arith) (omega arith) ∙ ap (λ i. bit_at seen i == 1) rest ∙ ap (λ v. v == 1) found.2

    pub found_within : 64 * index + place < len
    found_within = ⊎_elim (λ lt. lt) (λ ge. absurd (let no : true ≡ false = sym is_one ∙ is.past (64 * index + place) ge in cc)) (cases_lt (64 * index + place) len)

    pub found_first : IsFirstTrue (bits_of words len) from (Some (64 * index + place))
    found_first =
        let long : length (bits_of words len) ≡ len = length-map-range_with_len _ 0 len in
        let within = found_within in (
          let le = found.0 in omega arith,
          omega arith,
          get_or-map-range_with_len (λ q. is_bit words q) 0 len _ _ false within (omega arith) ∙ is_one,
          λ p past lt. get_or-map-range_with_len (λ q. is_bit words q) 0 len p p false (omega arith) (omega arith)
              ∙ clear_to place (let small = found.1 in omega arith) (λ i le small. found.3 i le small) p past lt,
        )

pub none_left : (words : List ℕ) (len from : ℕ) → IsBits words len → ((o : ℕ) → from ≤ o → o < 64 * length words → is_bit words o ≡ false) → IsFirstTrue (bits_of words len) from None
none_left words len from is clear o past = ⊎_elim
    (λ lt. get_or-map-range_with_len (λ q. is_bit words q) 0 len o o false lt (omega arith) ∙ clear o past (let e = is.enough in omega arith))
    (λ ge. get_or_past (bits_of words len) o false (let long : length (bits_of words len) ≡ len = length-map-range_with_len _ 0 len in omega arith))
    (cases_lt o len)

pub length-bits_of : (words : List ℕ) (len : ℕ) → length (bits_of words len) ≡ len
length-bits_of words len = length-map-range_with_len _ 0 len

-- a place within the list of bits is within its words
pub record IsInside (words : List ℕ) (len offset : ℕ) : Type 0 where
  pub inside : offset < len
  pub within : offset < 64 * length words
  pub word : offset / 64 < length words

pub inside_of : (words : List ℕ) (len offset : ℕ) (bits : List Bool) → bits_of words len ≡ bits → len ≤ 64 * length words → offset < length bits → IsInside words len offset
inside_of words len offset bits is enough asked =
    let long = length-bits_of words len in
    let seen : length (bits_of words len) ≡ length bits = ap (λ (bs : List Bool). length bs) is in
    record { inside = omega arith; within = omega arith; word = omega arith }

-- one bit of the list is turned: its word was read, and is written with that bit turned
pub turned : (words : List ℕ) (len o seen : ℕ) (bits : List Bool) → bits_of words len ≡ bits → IsBits words len → o < length bits → seen ≡ get_or words (o / 64) seen
    → (b new : ℕ) → (o % 64 < 64 → TurnsBit seen (o % 64) b new)
    → IsBits (set words (o / 64) new) len × (bits_of (set words (o / 64) new) len ≡ set bits o (b == 1))
turned words len o seen bits view is asked read b new turns =
    let here = inside_of words len o bits view is.enough asked in
    let word = get_or_read_under words (o / 64) (length words) seen 0 read here.word refl in
    let by = turns (omega arith) in (
      turned-IsBits words o b seen new here.within word by len here.inside is,
      bits_of-turned words o b seen new here.within word by len here.inside ∙ ap (λ (bs : List Bool). set bs o (b == 1)) view,
    )

-- ---- all words, one after another

pub written_here : (words : List ℕ) (index w o : ℕ) → index < length words → o / 64 ≡ index → is_bit (set words index w) o ≡ (bit_at w (o % 64) == 1)
written_here words index w o within at =
    ap (λ j. bit_at (get_or (set words index w) j 0) (o % 64) == 1) at ∙ ap (λ v. bit_at v (o % 64) == 1) (get_or-set_same words index w 0 within)

pub written_elsewhere : (words : List ℕ) (index w o : ℕ) → o / 64 ≢ index → is_bit (set words index w) o ≡ is_bit words o
written_elsewhere words index w o apart = ap (λ v. bit_at v (o % 64) == 1) (get_or-set_other words index (o / 64) w 0 apart)

-- so many words have been written, whose bits are these
pub record AreWritten (bits : ℕ → Bool) (count turns : ℕ) (words : List ℕ) : Type 0 where
  pub as_many : length words ≡ count
  pub written : (o : ℕ) → o < 64 * turns → is_bit words o ≡ bits o

pub none_written : (bits : ℕ → Bool) (words : List ℕ) → AreWritten bits (length words) 0 words
none_written bits words = record { as_many = refl; written = λ o low. absurd (omega arith) }

pub one_written : (bits : ℕ → Bool) (count turns w : ℕ) (words : List ℕ) → turns < length words → AreWritten bits count turns words
    → ((p : ℕ) → p < 64 → (bit_at w p == 1) ≡ bits (64 * turns + p)) → AreWritten bits count (turns + 1) (set words turns w)
one_written bits count turns w words within are each = record {
  as_many = length-set words turns w ∙ are.as_many;
  written = λ o low. ⊎_elim
      (λ before. written_elsewhere words turns w o (λ e. absurd (omega arith)) ∙ are.written o before)
      (λ here.
      let rest : 64 * turns + o % 64 ≡ o = omega arith in
      written_here words turns w o within (omega arith) ∙ each (o % 64) (omega arith) ∙ ap bits rest)
      (cases_lt o (64 * turns));
}

past_words : (words : List ℕ) (o : ℕ) → 64 * length words ≤ o → is_bit words o ≡ false
past_words words o past = ap (λ v. bit_at v (o % 64) == 1) (get_or_past words (o / 64) 0 (omega arith)) ∙ ap (λ v. v == 1) (bit_at-zero (o % 64))

-- all words were written
module _ (bits : ℕ → Bool) (count turns len : ℕ) (words words' : List ℕ) (is : IsBits words len) (are : AreWritten bits count turns words') (old : count ≡ length words) (all : count ≤ turns) where
  pub written-IsBits : ((o : ℕ) → len ≤ o → bits o ≡ false) → IsBits words' len
  written-IsBits none = record {
    few = is.few;
    enough = let e = is.enough in let n = are.as_many in omega arith;
    tight = let e = is.tight in let n = are.as_many in omega arith;
    past = λ o le. ⊎_elim
        (λ low. are.written o (omega arith) ∙ none o le)
        (λ high. past_words words' o (let n = are.as_many in omega arith))
        (cases_lt o (64 * count));
  }

  -- they are a list's bits
  pub bits_of-written : (list : List Bool) → length list ≡ len → ((o : ℕ) → o < len → bits o ≡ get_or list o false) → bits_of words' len ≡ list
  bits_of-written list long each =
      same_lists _ _ (length-bits_of words' len ∙ sym long)
      (λ k d low.
      let below : k < len = let l = length-bits_of words' len in omega arith in
      let e = is.enough in
      get_or-map-range_with_len (λ q. is_bit words' q) 0 len k k d below (omega arith)
      ∙ are.written k (omega arith) ∙ each k below ∙ any_default list k false d (omega arith))
    where
      any_default : (xs : List Bool) (i : ℕ) (d e : Bool) → i < length xs → get_or xs i d ≡ get_or xs i e
      any_default [] i d e within = absurd (omega arith)
      any_default (x ∷ xs) zero d e within = refl
      any_default (x ∷ xs) (suc i) d e within = any_default xs i d e (omega arith)

-- ---- bits that are clear in two words

both_clear : (x y : ℕ) → x < 2 → y < 2 → (min (1 - max x y) 1 == 1) ≡ neither (x == 1) (y == 1)
both_clear zero zero few few' = refl
both_clear zero (suc zero) few few' = refl
both_clear (suc zero) zero few few' = refl
both_clear (suc zero) (suc zero) few few' = refl
both_clear x (suc (suc y)) few few' = absurd (omega arith)
both_clear (suc (suc x)) y few few' = absurd (omega arith)

none_there : (x : ℕ) → (min x 0 == 1) ≡ false
none_there x = let none : min x 0 ≡ 0 = omega arith in ap (λ v. v == 1) none

module _ (a b mask p : ℕ) (fits_a : a < 2 ^ 64) (fits_b : b < 2 ^ 64) (within : p < 64) where
  neither_at : bit_at (bit_and (bit_not w64 (bit_or a b)) mask) p ≡ min (1 - max (bit_at a p) (bit_at b p)) (bit_at mask p)
  neither_at = bit_at_and (bit_not w64 (bit_or a b)) mask p
      ∙ ap (λ x. min x (bit_at mask p)) (bit_at_not w64 (bit_or a b) p (or_lt 64 a b fits_a fits_b) within ∙ ap (λ x. 1 - x) (bit_at_or a b p))

  pub neither_in : bit_at mask p ≡ 1 → (bit_at (bit_and (bit_not w64 (bit_or a b)) mask) p == 1) ≡ neither (bit_at a p == 1) (bit_at b p == 1)
  neither_in one = ap (λ x. x == 1) (neither_at ∙ ap (λ x. min (1 - max (bit_at a p) (bit_at b p)) x) one) ∙ both_clear (bit_at a p) (bit_at b p) (bit_at-lt a p) (bit_at-lt b p)

-- the bits that are clear in two lists of words, as far as the lists of bits go
pub clear_in : List ℕ → List ℕ → ℕ → ℕ → Bool
clear_in one other len o = if nat_lt o len then neither (is_bit one o) (is_bit other o) else false

clear_below : (one other : List ℕ) (len o : ℕ) → o < len → clear_in one other len o ≡ neither (is_bit one o) (is_bit other o)
unfolding clear_in
clear_below one other len o low = rw (lt-ltb o len low)

pub clear_past_end : (one other : List ℕ) (len o : ℕ) → len ≤ o → clear_in one other len o ≡ false
unfolding clear_in
clear_past_end one other len o high = rw (le-ltb o len high)

-- the bits of a word that was read
pub bit_of_word : (words : List ℕ) (turns w p : ℕ) → w ≡ get_or words turns 0 → p < 64 → (bit_at w p == 1) ≡ is_bit words (64 * turns + p)
bit_of_word words turns w p read within =
    let quotient : (64 * turns + p) / 64 ≡ turns = omega arith in
    let rest : (64 * turns + p) % 64 ≡ p = omega arith in
    ap (λ x. bit_at x p == 1) read ∙ sym (ap (λ j. bit_at (get_or words j 0) ((64 * turns + p) % 64) == 1) quotient ∙ ap (λ q. bit_at (get_or words turns 0) q == 1) rest)

-- the clear bits of two words
pub clear_bits_are : (one other count mask : ℕ) → one < 2 ^ 64 → other < 2 ^ 64 → AreFirstBits count mask → AreClearBits one other count (bit_and (bit_not w64 (bit_or one other)) mask)
clear_bits_are one other count mask fits fits' first = record {
  below = λ i word low. neither_in one other mask i fits fits' word (first.set i word low);
  past = λ i high. ap (λ x. x == 1) (bit_at_and (bit_not w64 (bit_or one other)) mask i ∙ ap (min (bit_at (bit_not w64 (bit_or one other)) i)) (first.clear i high)) ∙ none_there (bit_at (bit_not w64 (bit_or one other)) i);
}

-- the word of clear bits
pub clear_word : (one other : List ℕ) (len turns a b word : ℕ) → a ≡ get_or one turns 0 → b ≡ get_or other turns 0
    → AreClearBits a b (len - 64 * turns) word → (p : ℕ) → p < 64 → (bit_at word p == 1) ≡ clear_in one other len (64 * turns + p)
clear_word one other len turns a b word read_a read_b are p within =
    let at_one = bit_of_word one turns a p read_a within in
    let at_other = bit_of_word other turns b p read_b within in
    ⊎_elim
    (λ low. are.below p within (omega arith) ∙ (λ k. neither (at_one k) (at_other k)) ∙ sym (clear_below one other len (64 * turns + p) low))
    (λ high. are.past p (omega arith) ∙ sym (clear_past_end one other len (64 * turns + p) high))
    (cases_lt (64 * turns + p) len)

-- they are those that are clear in two lists of bits
pub clear_is_neither : (one other : List ℕ) (len : ℕ) (o : ℕ) → o < len → clear_in one other len o ≡ get_or (neither_of (bits_of one len) (bits_of other len)) o false
clear_is_neither one other len o low =
    let long = length-bits_of one len in
    clear_below one other len o low
    ∙ sym (get_or-map-range_with_len (λ q. neither (get_or (bits_of one len) q false) (get_or (bits_of other len) q false)) 0 (length (bits_of one len)) o o false (omega arith) (omega arith)
    ∙ (λ k. neither (get_or-map-range_with_len (λ q. is_bit one q) 0 len o o false low (omega arith) k) (get_or-map-range_with_len (λ q. is_bit other q) 0 len o o false low (omega arith) k)))

-- a bit as the list has it
pub bit_listed : (words : List ℕ) (len o : ℕ) → o < len → get_or (bits_of words len) o false ≡ is_bit words o
bit_listed words len o low = get_or-map-range_with_len (λ q. is_bit words q) 0 len o o false low (omega arith)

-- ---- words that have one list of bits
same_bit : (a b : ℕ) → a < 2 → b < 2 → (a == 1) ≡ (b == 1) → a ≡ b
same_bit zero zero low high e = refl
same_bit zero (suc zero) low high e = absurd cc
same_bit (suc zero) zero low high e = absurd cc
same_bit (suc zero) (suc zero) low high e = refl
same_bit (suc (suc a)) b low high e = absurd (omega arith)
same_bit a (suc (suc b)) low high e = absurd (omega arith)

pub words_same : (one other : List ℕ) → length one ≡ length other → ((i : ℕ) → get_or one i 0 < 2 ^ 64) → ((i : ℕ) → get_or other i 0 < 2 ^ 64) → ((o : ℕ) → is_bit one o ≡ is_bit other o)
    → one ≡ other
words_same one other long few other_few same = same_lists one other long (λ i d low.
    (let a = get_or one i 0 in
    let b = get_or other i 0 in
    get_or_default one i d 0 low
    ∙ (same_from_bits_below 64 a b (few i) (other_few i) (λ p within. same_bit (bit_at a p) (bit_at b p) (bit_at-lt a p) (bit_at-lt b p)
    (bit_of_word one i a p refl within ∙ (same (64 * i + p) ∙ sym (bit_of_word other i b p refl within))))
    ∙ sym (get_or_default other i d 0 (omega arith)))))

module _ (one other : List ℕ) (len : ℕ) where
  pub bits_same : ((o : ℕ) → is_bit one o ≡ is_bit other o) → bits_of one len ≡ bits_of other len
  bits_same same i = map (λ o. same o i) (range_with_len 0 len)

  pub same_bits : IsBits one len → IsBits other len → bits_of one len ≡ bits_of other len → (o : ℕ) → is_bit one o ≡ is_bit other o
  same_bits is other_is same o = elim (cases_lt o len) [
    | inl low ↦ sym (bit_listed one len o low) ∙ (ap (λ bits. get_or bits o false) same ∙ bit_listed other len o low)
    | inr ge ↦ is.past o ge ∙ sym (other_is.past o ge)
  ]

pub neither_written : (one_words other_words : List ℕ) (len one_len other_len : ℕ) (one other : List Bool) → bits_of one_words one_len ≡ one → bits_of other_words other_len ≡ other → one_len ≡ len → other_len ≡ len
    → (o : ℕ) → o < len → clear_in one_words other_words len o ≡ get_or (neither_of one other) o false
neither_written one_words other_words len one_len other_len one other one_is other_is same same' o low =
    let first = ap (bits_of one_words) (sym same) ∙ one_is in
    let second = ap (bits_of other_words) (sym same') ∙ other_is in
    clear_is_neither one_words other_words len o low ∙ (λ k. get_or (neither_of (first k) (second k)) o false)

-- two lists have as many bits
pub same_len : (words other_words : List ℕ) (len other_len : ℕ) (bits other : List Bool) → bits_of words len ≡ bits → bits_of other_words other_len ≡ other → length other ≡ length bits → other_len ≡ len
same_len words other_words len other_len bits other is other_is same =
    sym (length-bits_of other_words other_len) ∙ ap (λ (bs : List Bool). length bs) other_is ∙ same ∙ sym (ap (λ (bs : List Bool). length bs) is) ∙ length-bits_of words len

pub length-neither_of : (one other : List Bool) → length (neither_of one other) ≡ length one
length-neither_of one other = length-map-range_with_len _ 0 (length one)

-- ---- whether a bit is set

pub has-first : (bits : List Bool) (result : Option ℕ) → IsFirstTrue bits 0 result → is_some result ≡ has_true bits
has-first bits None none = sym (all_false bits (λ o. none o (omega arith)))
  where
    all_false : (bits : List Bool) → ((o : ℕ) → get_or bits o false ≡ false) → has_true bits ≡ false
    all_false [] each = refl
    all_false (true ∷ bits) each = each 0
    all_false (false ∷ bits) each = all_false bits (λ o. each (suc o))
has-first bits (Some o) (from, within, set, before) = sym (has-true bits o set)
  where
    has-true : (bits : List Bool) (o : ℕ) → get_or bits o false ≡ true → has_true bits ≡ true
    has-true [] o set = absurd cc
    has-true (true ∷ bits) o set = refl
    has-true (false ∷ bits) zero set = absurd cc
    has-true (false ∷ bits) (suc o) set = has-true bits o set

pub true-has : (bits : List Bool) (o : ℕ) → get_or bits o false ≡ true → has_true bits ≡ true
true-has [] o set = absurd cc
true-has (true ∷ bits) o set = refl
true-has (false ∷ bits) zero set = absurd cc
true-has (false ∷ bits) (suc o) set = true-has bits o set

-- two lists of as many bits of which none is set
pub none-same : (one other : List Bool) → has_true one ≡ false → has_true other ≡ false → length one ≡ length other → one ≡ other
none-same [] [] e f l = refl
none-same [] (y ∷ ys) e f l = absurd (omega arith)
none-same (x ∷ xs) [] e f l = absurd (omega arith)
none-same (true ∷ xs) (y ∷ ys) e f l = absurd cc
none-same (false ∷ xs) (true ∷ ys) e f l = absurd cc
none-same (false ∷ xs) (false ∷ ys) e f l = ap (λ r. false ∷ r) (none-same xs ys e f (omega arith))

-- a place that is clear in both
pub neither-is : (one other : List Bool) (o : ℕ) → get_or (neither_of one other) o false ≡ true → (get_or one o false ≡ false) × (get_or other o false ≡ false)
neither-is one other o set = ⊎_elim
    (λ low. both (get_or one o false) (get_or other o false)
    (sym (get_or-map-range_with_len (λ q. neither (get_or one q false) (get_or other q false)) 0 (length one) o o false low (omega arith)) ∙ set))
    (λ high. absurd (let no = sym (get_or_past (neither_of one other) o false (let l = length-neither_of one other in omega arith)) ∙ set in cc))
    (cases_lt o (length one))
  where
    both : (x y : Bool) → neither x y ≡ true → (x ≡ false) × (y ≡ false)
    both false false e = (refl, refl)
    both false true e = absurd cc
    both true y e = absurd cc

-- the first bits of a word
pub some_first_bits : (count : ℕ) → count < 64 → AreFirstBits count (1 * 2 ^ count % 18446744073709551616 - 1)
some_first_bits count few =
    let fits : 2 ^ count < 2 ^ 64 = pow-lt few in
    let same : 1 * 2 ^ count % 18446744073709551616 - 1 ≡ 2 ^ count - 1 = omega arith in
    record {
      set = λ i word low. ap (λ w. bit_at w i) same ∙ bit_at_ones count i low;
      clear = λ i high. ap (λ w. bit_at w i) same ∙ bit_at_ones_above count i high;
    }

pub all_first_bits : (count : ℕ) → 64 ≤ count → AreFirstBits count 18446744073709551615
all_first_bits count all = record {
  set = λ i word low. bit_at_ones 64 i word;
  clear = λ i high. bit_at_ones_above 64 i (omega arith);
}
