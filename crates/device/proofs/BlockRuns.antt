-- A run's block at place k has the address first + k: so where one run ends the next begins, and a front and what is
-- behind it are runs again.
use Rattle.std.proofs.Common.{◌≡◌, ⊎_elim, ℕ, zero, suc, ◌+◌, ◌-◌, ◌<◌, List, [], ◌∷◌, ◌++◌, length, get_or, refl, ap, sym, subst, ◌∙◌, arith}
use Rattle.std.proofs.lemmas.Bool.{cases_lt}
use Rattle.std.proofs.lemmas.List.{length-append, get_or_append_left, get_or-append_right, get_or-append-add}
use Rattle.std.proofs.lemmas.List.Elements.{All-nil, All-cons, All-head, All-append}
use Rattle.device.specs.Parts.{IsBlockRun}

module _ {B : Type 0} (address_of : B → ℕ) (content_of : B → List ℕ) (bytes : ℕ) where
  abbrev IsRun : ℕ → List B → Type 0
  IsRun first blocks = IsBlockRun address_of content_of bytes first blocks

  abbrev IsLong : B → Type 0
  IsLong block = length (content_of block) ≡ bytes

  pub run_of_none : (first : ℕ) → IsRun first []
  run_of_none first = record { addresses = λ k other within. absurd (omega arith); lengths = All-nil IsLong }

  addresses_of_one : (first : ℕ) (block : B) → address_of block ≡ first → (k : ℕ) (other : B) → k < 1 → address_of (get_or (block ∷ []) k other) ≡ first + k
  addresses_of_one first block is zero other within = omega arith
  addresses_of_one first block is (suc k) other within = absurd (omega arith)

  pub run_of_one : (first : ℕ) (block : B) → address_of block ≡ first → length (content_of block) ≡ bytes → IsRun first (block ∷ [])
  run_of_one first block is long = record { addresses = addresses_of_one first block is; lengths = All-cons IsLong block [] long (All-nil IsLong) }

  -- one run, and another behind it
  pub run-append : (first : ℕ) (xs ys : List B) → IsRun first xs → IsRun (first + length xs) ys → IsRun first (xs ++ ys)
  run-append first xs ys front back = record {
    addresses = λ k other within. ⊎_elim
        (λ low. ap address_of (get_or_append_left xs ys other k low) ∙ front.addresses k other low)
        (λ high.
        let long = length-append xs ys in
        ap address_of (get_or-append_right xs ys (length xs) k other refl high) ∙ back.addresses (k - length xs) other (omega arith) ∙ omega arith)
        (cases_lt k (length xs));
    lengths = All-append IsLong xs ys front.lengths back.lengths;
  }

  -- one more block behind a run
  pub run_push : (first : ℕ) (xs : List B) (block : B) → IsRun first xs → address_of block ≡ first + length xs → length (content_of block) ≡ bytes → IsRun first (xs ++ block ∷ [])
  run_push first xs block front is long = run-append first xs (block ∷ []) front (run_of_one (first + length xs) block is long)

  -- the front of a run
  pub run_front : (first : ℕ) (xs ys : List B) → IsRun first (xs ++ ys) → IsRun first xs
  run_front first xs ys run = record {
    addresses = λ k other within.
        let long = length-append xs ys in
        ap address_of (sym (get_or_append_left xs ys other k within)) ∙ run.addresses k other (omega arith);
    lengths = λ k other within.
        let long = length-append xs ys in
        subst IsLong (get_or_append_left xs ys other k within) (run.lengths k other (omega arith));
  }

  -- what is left of it
  pub run_back : (first : ℕ) (xs ys : List B) → IsRun first (xs ++ ys) → IsRun (first + length xs) ys
  run_back first xs ys run = record {
    addresses = λ k other within.
        let long = length-append xs ys in
        ap address_of (sym (get_or-append-add xs ys k other)) ∙ run.addresses (length xs + k) other (omega arith) ∙ omega arith;
    lengths = λ k other within.
        let long = length-append xs ys in
        subst IsLong (get_or-append-add xs ys k other) (run.lengths (length xs + k) other (omega arith));
  }

  pub first-address : (first : ℕ) (block : B) (rest : List B) → IsRun first (block ∷ rest) → address_of block ≡ first
  first-address first block rest run = run.addresses 0 block (omega arith) ∙ omega arith

  pub first-length : (first : ℕ) (block : B) (rest : List B) → IsRun first (block ∷ rest) → length (content_of block) ≡ bytes
  first-length first block rest run = All-head IsLong block rest run.lengths

  pub run_rest : (first : ℕ) (block : B) (rest : List B) → IsRun first (block ∷ rest) → IsRun (first + 1) rest
  run_rest first block rest run = run_back first (block ∷ []) rest run

  -- the block that a walk comes to, behind those that it has passed
  pub next-address : (first : ℕ) (passed : List B) (block : B) (rest : List B) → IsRun first (passed ++ block ∷ rest) → address_of block ≡ first + length passed
  next-address first passed block rest run = first-address (first + length passed) block rest (run_back first passed (block ∷ rest) run)

  pub next-length : (first : ℕ) (passed : List B) (block : B) (rest : List B) → IsRun first (passed ++ block ∷ rest) → length (content_of block) ≡ bytes
  next-length first passed block rest run = first-length (first + length passed) block rest (run_back first passed (block ∷ rest) run)
