-- Changes are read in their own bytes alone, so those that are noted behind them leave them as they are.
use Rattle.std.proofs.Common.{◌≡◌, refl, sym, ◌∙◌, ap, ◌⊎◌, ⊎_elim, ℕ, zero, suc, ◌+◌, ◌*◌, ◌<◌, ◌≤◌, Bool, true, false, List, take, arith}
use Rattle.std.specs.Prelude.{◌&&◌, nat_lt, not}
use Rattle.std.proofs.lemmas.Bool.{lt-ltb, le-ltb, cases_lt}
use Rattle.packs_journal.specs.Journal.{place_of, word_of, next_place, rises, with_word, patched, AreRising}
use Rattle.packs_journal.proofs.Pieces.{take_less, number_same, part_same}

module _ (xs ys : List ℕ) where
  pub place_same : (n m : ℕ) → n < m → take (12 * m) xs ≡ take (12 * m) ys → place_of xs n ≡ place_of ys n
  place_same n m less same = number_same (12 * n) (12 * m) xs ys (omega (arith, less)) same

  pub next_same : (n : ℕ) → take (12 * n) xs ≡ take (12 * n) ys → next_place xs n ≡ next_place ys n
  unfolding next_place
  next_same zero same = refl
  next_same (suc n) same = ap suc (place_same n (suc n) (omega arith) same)

  fewer : (n : ℕ) → take (12 * suc n) xs ≡ take (12 * suc n) ys → take (12 * n) xs ≡ take (12 * n) ys
  fewer n same = take_less (12 * n) (12 * suc n) xs ys (omega arith) same

  pub rises_same : (words n : ℕ) → take (12 * n) xs ≡ take (12 * n) ys → rises words xs n ≡ rises words ys n
  unfolding rises
  rises_same words zero same = refl
  rises_same words (suc n) same =
      let before = rises_same words n (fewer n same) in
      let place = place_same n (suc n) (omega arith) same in
      let next = next_same n (fewer n same) in
      ap (λ b. b && (not (nat_lt (place_of xs n) (next_place xs n)) && nat_lt (place_of xs n) words)) before
      ∙ ap (λ p. rises words ys n && (not (nat_lt p (next_place xs n)) && nat_lt p words)) place
      ∙ ap (λ p. rises words ys n && (not (nat_lt (place_of ys n) p) && nat_lt (place_of ys n) words)) next

  pub patched_same : (n : ℕ) (bytes : List ℕ) → take (12 * n) xs ≡ take (12 * n) ys → patched xs n bytes ≡ patched ys n bytes
  unfolding patched
  patched_same zero bytes same = refl
  patched_same (suc n) bytes same =
      let before = patched_same n bytes (fewer n same) in
      let place = place_same n (suc n) (omega arith) same in
      let word = part_same (12 * n + 4) 8 (12 * suc n) xs ys (omega arith) same in
      ap (λ l. with_word (place_of xs n) (word_of xs n) l) before
      ∙ ap (λ p. with_word p (word_of xs n) (patched ys n bytes)) place
      ∙ ap (λ w. with_word (place_of ys n) w (patched ys n bytes)) word

-- one change more
pub rises_more : (words n m : ℕ) (old new : List ℕ) (place : ℕ) → take (12 * n) new ≡ take (12 * n) old → place_of new n ≡ place
    → AreRising words old n m → m ≤ place → place < words → AreRising words new (suc n) (suc place)
unfolding rises next_place
rises_more words n m old new place same is rising le less =
    let before : rises words new n ≡ true = rises_same new old words n same ∙ rising.rise in
    let next : next_place new n ≤ place_of new n = rw (next_same new old n same) (omega (arith, is, rising.end, le)) in
    let behind : nat_lt (place_of new n) (next_place new n) ≡ false = le-ltb (place_of new n) (next_place new n) next in
    let within : nat_lt (place_of new n) words ≡ true = lt-ltb (place_of new n) words (omega (arith, is, less)) in
    record {
      rise = ap (λ b. b && (not (nat_lt (place_of new n) (next_place new n)) && nat_lt (place_of new n) words)) before
          ∙ ap (λ b. not b && nat_lt (place_of new n) words) behind ∙ within;
      end = omega (arith, is);
    }

pub patched_more : (n : ℕ) (old new bytes : List ℕ) → take (12 * n) new ≡ take (12 * n) old
    → patched new (suc n) bytes ≡ with_word (place_of new n) (word_of new n) (patched old n bytes)
unfolding patched
patched_more n old new bytes same = ap (λ l. with_word (place_of new n) (word_of new n) l) (patched_same new old n bytes same)

pub rising_on : (words : ℕ) (changes : List ℕ) (n m m' : ℕ) → m ≤ m' → AreRising words changes n m → AreRising words changes n m'
rising_on words changes n m m' le rising = record { rise = rising.rise; end = omega (arith, rising.end, le) }

-- a change that is none makes all behind it none
pub rises_not : (words : ℕ) (changes : List ℕ) (n count : ℕ) → n < count → (place_of changes n < next_place changes n) ⊎ (words ≤ place_of changes n) → rises words changes count ≡ false
unfolding rises
rises_not words changes n zero less bad = absurd (omega (arith, less))
rises_not words changes n (suc count) less bad = ⊎_elim
    (λ below. ap (λ b. b && (not (nat_lt (place_of changes count) (next_place changes count)) && nat_lt (place_of changes count) words)) (rises_not words changes n count below bad))
    (λ behind. let at : n ≡ count = omega (arith, less, behind) in rw (sym at) (last (rises words changes n)))
    (cases_lt n count)
  where
    nothing : (b : Bool) → (b && false) ≡ false
    nothing true = refl
    nothing false = refl

    one : not (nat_lt (place_of changes n) (next_place changes n)) && nat_lt (place_of changes n) words ≡ false
    one = ⊎_elim
        (λ early. ap (λ b. not b && nat_lt (place_of changes n) words) (lt-ltb (place_of changes n) (next_place changes n) early))
        (λ far. ap (λ b. not (nat_lt (place_of changes n) (next_place changes n)) && b) (le-ltb (place_of changes n) words far) ∙ nothing (not (nat_lt (place_of changes n) (next_place changes n)))) bad

    last : (b : Bool) → (b && (not (nat_lt (place_of changes n) (next_place changes n)) && nat_lt (place_of changes n) words)) ≡ false
    last true = one
    last false = refl
