-- Bits of a set of pages: of none, of all, of one more, and of two sets together.
use Rattle.std.proofs.Common.{◌≡◌, ◌≢◌, refl, sym, ◌∙◌, ap, ⊎_elim, ℕ, zero, suc, ◌*◌, ◌/◌, ◌%◌, ◌^◌, ◌<◌, ◌≤◌, List, length, get_or, set, replicate, bit_or, w8, arith}
use Rattle.packs_journal.specs.Places.{map_bytes, map_pages}
use Rattle.std.specs.Prelude.{◌||◌, ◌==◌, max}
use Rattle.std.specs.Int.{bit_at}
use Rattle.std.proofs.lemmas.Bool.{cases_lt, cases_eq}
use Rattle.std.proofs.lemmas.List.{get_or-set_same, get_or-set_other, get_or-replicate, get_or_past}
use Rattle.std.proofs.lemmas.Nat.Bits.{bit_at_or, bit_at_ones, bit_at-lt, bit_at-zero, bit_at_set_same, bit_at_set_other}
use Rattle.packs_journal.specs.Journal.{copy_in}

pub full_bit : (k : ℕ) → k < map_pages → copy_in (replicate map_bytes 255) k ≡ 1
full_bit k below =
    let within : k / 8 < map_bytes = omega (arith, below) in
    let small : k % 8 < 8 = omega arith in
    ap (λ (x : ℕ). bit_at x (k % 8)) (get_or-replicate map_bytes (k / 8) 255 0 within) ∙ bit_at_ones 8 (k % 8) small

-- one bit is set
module _ (bits : List ℕ) (k : ℕ) (within : k / 8 < length bits) where
  abbrev pub joined : List ℕ
  joined = set bits (k / 8) (bit_or (get_or bits (k / 8) 0) (1 * 2 ^ (k % 8) % 256))

  small : k % 8 < 8
  small = omega arith

  pub joined_same : copy_in joined k ≡ 1
  joined_same =
      let b = get_or bits (k / 8) 0 in
      ap (λ (x : ℕ). bit_at x (k % 8)) (get_or-set_same bits (k / 8) (bit_or b (1 * 2 ^ (k % 8) % 256)) 0 within) ∙ bit_at_set_same w8 b (k % 8) small

  pub joined_other : (j : ℕ) → j ≢ k → copy_in joined j ≡ copy_in bits j
  joined_other j apart =
      let b = get_or bits (k / 8) 0 in
      let put = bit_or b (1 * 2 ^ (k % 8) % 256) in
      ⊎_elim
      (λ (same : j / 8 ≡ k / 8).
      ap (λ (i : ℕ). bit_at (get_or joined i 0) (j % 8)) same
      ∙ ap (λ (x : ℕ). bit_at x (j % 8)) (get_or-set_same bits (k / 8) put 0 within)
      ∙ bit_at_set_other w8 b (k % 8) small (j % 8) (λ is. apart (omega (arith, same, is)))
      ∙ ap (λ (i : ℕ). bit_at (get_or bits i 0) (j % 8)) (sym same))
      (λ other. ap (λ (x : ℕ). bit_at x (j % 8)) (get_or-set_other bits (k / 8) (j / 8) put 0 other))
      (cases_eq (j / 8) (k / 8))

-- a bit of two sets together
either : (x y : ℕ) → x < 2 → y < 2 → (max x y == 1) ≡ ((x == 1) || (y == 1))
either zero zero l m = refl
either zero (suc zero) l m = refl
either (suc zero) zero l m = refl
either (suc zero) (suc zero) l m = refl
either zero (suc (suc y)) l m = absurd (omega (arith, m))
either (suc zero) (suc (suc y)) l m = absurd (omega (arith, m))
either (suc (suc x)) y l m = absurd (omega (arith, l))

pub both_bits : (new old other : List ℕ) → ((i : ℕ) → i < map_bytes → get_or new i 0 ≡ bit_or (get_or old i 0) (get_or other i 0)) → ((i : ℕ) → map_bytes ≤ i → get_or new i 0 ≡ get_or old i 0) → length other ≡ map_bytes
    → (k : ℕ) → (copy_in new k == 1) ≡ ((copy_in old k == 1) || (copy_in other k == 1))
both_bits new old other within past long k =
    let a = get_or old (k / 8) 0 in
    let b = get_or other (k / 8) 0 in
    let first = bit_at-lt a (k % 8) in
    let second = bit_at-lt b (k % 8) in
    ap (λ (x : ℕ). x == 1) (⊎_elim
    (λ (less : k / 8 < map_bytes). ap (λ (x : ℕ). bit_at x (k % 8)) (within (k / 8) less) ∙ bit_at_or a b (k % 8))
    (λ more.
    let none : bit_at b (k % 8) ≡ 0 = ap (λ (x : ℕ). bit_at x (k % 8)) (get_or_past other (k / 8) 0 (omega (arith, long, more))) ∙ bit_at-zero (k % 8) in
    ap (λ (x : ℕ). bit_at x (k % 8)) (past (k / 8) more) ∙ greater (bit_at a (k % 8)) (bit_at b (k % 8)) none)
    (cases_lt (k / 8) map_bytes))
    ∙ either (bit_at a (k % 8)) (bit_at b (k % 8)) first second
  where
    greater : (x y : ℕ) → y ≡ 0 → x ≡ max x y
    greater x y is = omega (arith, is)
