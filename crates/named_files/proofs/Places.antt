-- A search for the first pass of a number goes on, finds one, or ends.
use Rattle.std.proofs.Common.{◌≡◌, ◌≢◌, ◌∙◌, ◌+◌, ◌<◌, ◌≤◌, ℕ, zero, suc, List, [], ◌∷◌, Some, None, cond, length, drop, get_or, ap, sym, subst, refl, ne_eqb, eq-eqb, add-zero, arith}
use Rattle.std.proofs.lemmas.List.{drop_more, drop_all}
use Rattle.file_cells.specs.Pass.{Pass}
use Rattle.named_files.specs.Files.{file_at, IsPlace, IsThere}

after_next : (i k : ℕ) → i + suc k ≡ i + 1 + k
after_next i k = omega arith

-- the first i passes have another number
pub record Passed (number i : ℕ) (passes : List Pass) : Type 0 where
  pub place : (k : ℕ) → IsPlace number (drop i passes) k → IsPlace number passes (i + k)
  pub file : file_at number (drop i passes) ≡ file_at number passes

pub passed_none : (number : ℕ) (passes : List Pass) → Passed number 0 passes
passed_none number passes = record { place = λ k here. subst (IsPlace number passes) (omega arith) here; file = refl }

module _ (number i : ℕ) (passes : List Pass) (pass : Pass) (low : i < length passes) (is : pass ≡ get_or passes i pass) (passed : Passed number i passes) where
  next : drop i passes ≡ pass ∷ drop (i + 1) passes
  next = drop_more passes i pass low ∙ ap (λ p. p ∷ drop (i + 1) passes) (sym is)

  pub passed_more : pass.number ≢ number → Passed number (i + 1) passes
  passed_more other = record {
    place = λ k here. subst (IsPlace number passes) (after_next i k) (passed.place (suc k) (subst (λ ps. IsPlace number ps (suc k)) (sym next) (other, here)));
    file =
        sym (ap (file_at number) next ∙ ap (λ b. cond b (Some pass.file) (file_at number (drop (i + 1) passes))) (ne_eqb pass.number number other))
        ∙ passed.file;
  }

  pub passed_here : pass.number ≡ number → IsPlace number passes i
  passed_here same = subst (IsPlace number passes) (add-zero i) (passed.place 0 (subst (λ ps. IsPlace number ps 0) (sym next) same))

pub passed_all : (number i : ℕ) (passes : List Pass) → length passes ≤ i → Passed number i passes → file_at number passes ≡ None
passed_all number i passes all passed = sym passed.file ∙ ap (file_at number) (drop_all i passes all)

-- what stands at the place of a number
pub file_at_place : (number : ℕ) (passes : List Pass) (place : ℕ) (other : Pass) → IsPlace number passes place → file_at number passes ≡ Some (get_or passes place other).file
file_at_place number [] place other here = absurd here
file_at_place number (pass ∷ passes) zero other here = ap (λ b. cond b (Some pass.file) (file_at number passes)) (eq-eqb pass.number number here)
file_at_place number (pass ∷ passes) (suc place) other here =
    ap (λ b. cond b (Some pass.file) (file_at number passes)) (ne_eqb pass.number number here.0) ∙ file_at_place number passes place other here.1

pub number_at_place : (number : ℕ) (passes : List Pass) (place : ℕ) (other : Pass) → IsPlace number passes place → (get_or passes place other).number ≡ number
number_at_place number [] place other here = absurd here
number_at_place number (pass ∷ passes) zero other here = here
number_at_place number (pass ∷ passes) (suc place) other here = number_at_place number passes place other here.1

pub there_at_place : (number : ℕ) (passes : List Pass) (place : ℕ) → IsPlace number passes place → IsThere passes number
there_at_place number [] place here = absurd here
there_at_place number (pass ∷ passes) zero here = (pass.file, ap (λ b. cond b (Some pass.file) (file_at number passes)) (eq-eqb pass.number number here))
there_at_place number (pass ∷ passes) (suc place) here =
    let there = there_at_place number passes place here.1 in (
      there.0,
      ap (λ b. cond b (Some pass.file) (file_at number passes)) (ne_eqb pass.number number here.0) ∙ there.1,
    )
