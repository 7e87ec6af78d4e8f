-- The map is gone through bit by bit, and one bit is turned.
use Rattle.std.proofs.Common.{◌≡◌, ◌≢◌, refl, sym, ◌∙◌, ap, ⊎_elim, ℕ, zero, suc, ◌+◌, ◌-◌, ◌*◌, ◌/◌, ◌%◌, ◌^◌, ◌<◌, ◌≤◌, Bool, true, false, List, length, get_or, set, replicate, arith}
use Rattle.packs_journal.specs.Places.{map_bytes, map_pages}
use Rattle.std.specs.Prelude.{◌&&◌, ◌||◌, ◌==◌, nat_lt}
use Rattle.std.specs.Int.{bit_at}
use Rattle.std.specs.Int.RustNames.{bit_xor}
use Rattle.std.proofs.lemmas.Bool.{lt-ltb, le-ltb, eqb-true, cases_lt, cases_eq}
use Rattle.std.proofs.lemmas.List.{get_or-set_same, get_or-set_other, get_or-replicate, get_or_past}
use Rattle.std.proofs.lemmas.Nat.Bits.{bit_at_xor, bit_at-pow_same, bit_at-pow_other, bit_at-lt, bit_at-zero}
use Rattle.packs_journal.specs.Journal.{copy_in, names_pages}

module _ (pages : ℕ) (map : List ℕ) where
  pub named_more : (k : ℕ) → names_pages pages map k ≡ true → (nat_lt k pages || (copy_in map k == 0)) ≡ true → names_pages pages map (suc k) ≡ true
  unfolding names_pages
  named_more k named good = ap (λ b. b && (nat_lt k pages || (copy_in map k == 0))) named ∙ good

  pub named_not : (k n : ℕ) → k < n → (nat_lt k pages || (copy_in map k == 0)) ≡ false → names_pages pages map n ≡ false
  unfolding names_pages
  named_not k zero less bad = absurd (omega (arith, less))
  named_not k (suc n) less bad = ⊎_elim
      (λ below. ap (λ b. b && (nat_lt n pages || (copy_in map n == 0))) (named_not k n below bad))
      (λ behind. let at : k ≡ n = omega (arith, less, behind) in rw (sym at) (last (names_pages pages map k)))
      (cases_lt k n)
    where
      last : (b : Bool) → (b && (nat_lt k pages || (copy_in map k == 0))) ≡ false
      last true = bad
      last false = refl

  -- whether each bit up to n may be set
  pub named_by : (n : ℕ) → ((k : ℕ) → k < n → pages ≤ k → copy_in map k ≡ 0) → names_pages pages map n ≡ true
  unfolding names_pages
  named_by zero each = refl
  named_by (suc n) each = named_more n (named_by n (λ k less. each k (omega (arith, less)))) (⊎_elim
      (λ below. ap (λ b. b || (copy_in map n == 0)) (lt-ltb n pages below))
      (λ behind. ap (λ b. b || (copy_in map n == 0)) (le-ltb n pages behind) ∙ ap (λ (x : ℕ). x == 0) (each n (omega arith) behind))
      (cases_lt n pages))

  pub named_at : (n k : ℕ) → names_pages pages map n ≡ true → k < n → pages ≤ k → copy_in map k ≡ 0
  unfolding names_pages
  named_at zero k named less behind = absurd (omega (arith, less))
  named_at (suc n) k named less behind = ⊎_elim
      (λ below. named_at n k (first (names_pages pages map n) _ named) below behind)
      (λ over. let at : k ≡ n = omega (arith, less, over) in rw at (is_zero n (rw (sym at) behind) (second (names_pages pages map n) _ named)))
      (cases_lt k n)
    where
      first : (a b : Bool) → (a && b) ≡ true → a ≡ true
      first true b is = refl
      first false b is = is

      second : (a b : Bool) → (a && b) ≡ true → b ≡ true
      second true b is = is
      second false b is = absurd cc

      is_zero : (n : ℕ) → pages ≤ n → (nat_lt n pages || (copy_in map n == 0)) ≡ true → copy_in map n ≡ 0
      is_zero n behind is = eqb-true (copy_in map n) 0 (ap (λ b. b || (copy_in map n == 0)) (sym (le-ltb n pages behind)) ∙ is)

-- a map of zeros names the first copies
pub zero_copy : (k : ℕ) → copy_in (replicate map_bytes 0) k ≡ 0
zero_copy k = ⊎_elim
    (λ (less : k / 8 < map_bytes). ap (λ (x : ℕ). bit_at x (k % 8)) (get_or-replicate map_bytes (k / 8) 0 0 less) ∙ bit_at-zero (k % 8))
    (λ past. ap (λ (x : ℕ). bit_at x (k % 8)) (get_or_past (replicate map_bytes 0) (k / 8) 0 (omega (arith, past))) ∙ bit_at-zero (k % 8))
    (cases_lt (k / 8) map_bytes)

pub zeros_named : (pages : ℕ) → names_pages pages (replicate map_bytes 0) map_pages ≡ true
zeros_named pages = named_by pages (replicate map_bytes 0) map_pages (λ k less behind. zero_copy k)

-- where one page's bit is another
pub named_turned : (pages k : ℕ) (old new : List ℕ) → k < pages → ((j : ℕ) → j ≢ k → copy_in new j ≡ copy_in old j) → names_pages pages old map_pages ≡ true → names_pages pages new map_pages ≡ true
named_turned pages k old new below others named =
    named_by pages new map_pages (λ j less behind. others j (λ same. absurd (omega (arith, below, behind, same))) ∙ named_at pages old map_pages j named less behind)

-- the number that has bit k of a byte
pub one_bit : (k : ℕ) → 1 * 2 ^ (k % 8) % 256 ≡ 2 ^ (k % 8)
one_bit k = below (k % 8) (omega arith)
  where
    below : (i : ℕ) → i < 8 → 1 * 2 ^ i % 256 ≡ 2 ^ i
    below zero less = refl
    below (suc zero) less = refl
    below (suc (suc zero)) less = refl
    below (suc (suc (suc zero))) less = refl
    below (suc (suc (suc (suc zero)))) less = refl
    below (suc (suc (suc (suc (suc zero))))) less = refl
    below (suc (suc (suc (suc (suc (suc zero)))))) less = refl
    below (suc (suc (suc (suc (suc (suc (suc zero))))))) less = refl
    below (suc (suc (suc (suc (suc (suc (suc (suc i)))))))) less = absurd (omega (arith, less))

-- a bit is turned
module _ (map : List ℕ) (k : ℕ) (within : k / 8 < length map) where
  abbrev pub turned : List ℕ
  turned = set map (k / 8) (bit_xor (get_or map (k / 8) 0) (2 ^ (k % 8)))

  pub turned_same : copy_in turned k ≡ 1 - copy_in map k
  turned_same =
      let b = get_or map (k / 8) 0 in
      let low = bit_at-lt b (k % 8) in
      ap (λ (x : ℕ). bit_at x (k % 8)) (get_or-set_same map (k / 8) (bit_xor b (2 ^ (k % 8))) 0 within)
      ∙ bit_at_xor b (2 ^ (k % 8)) (k % 8)
      ∙ ap (λ (x : ℕ). (bit_at b (k % 8) + x) % 2) (bit_at-pow_same (k % 8))
      ∙ other (bit_at b (k % 8)) low
    where
      other : (x : ℕ) → x < 2 → (x + 1) % 2 ≡ 1 - x
      other x less = omega (arith, less)

  pub turned_other : (j : ℕ) → j ≢ k → copy_in turned j ≡ copy_in map j
  turned_other j apart = ⊎_elim
      (λ same.
      let b = get_or map (k / 8) 0 in
      ap (λ (i : ℕ). bit_at (get_or turned i 0) (j % 8)) same
      ∙ ap (λ (x : ℕ). bit_at x (j % 8)) (get_or-set_same map (k / 8) (bit_xor b (2 ^ (k % 8))) 0 within)
      ∙ bit_at_xor b (2 ^ (k % 8)) (j % 8)
      ∙ ap (λ (x : ℕ). (bit_at b (j % 8) + x) % 2) (bit_at-pow_other (k % 8) (j % 8) (λ is. apart (omega (arith, same, is))))
      ∙ small (bit_at b (j % 8)) (bit_at-lt b (j % 8))
      ∙ ap (λ (i : ℕ). bit_at (get_or map i 0) (j % 8)) (sym same))
      (λ other. ap (λ (x : ℕ). bit_at x (j % 8)) (get_or-set_other map (k / 8) (j / 8) (bit_xor (get_or map (k / 8) 0) (2 ^ (k % 8))) 0 other))
      (cases_eq (j / 8) (k / 8))
    where
      small : (x : ℕ) → x < 2 → (x + 0) % 2 ≡ x
      small x less = omega (arith, less)
