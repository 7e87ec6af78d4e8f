-- The part of a number stands alone, so what its twin weighs by a row that no other part has is what the part itself weighs:
-- both have one row, and may come to have another together.
use Rattle.std.proofs.Common.{◌≡◌, ◌≢◌, ℕ, ◌≤◌, ◌<◌, ◌==◌, Bool, true, false, List, [], ◌∷◌, if◌then◌else◌, refl, sym, ap, subst, arith, eq-eqb}
use Rattle.geometry.specs.Weights.{weigh}
use Rattle.rights_books.specs.ClaimRules.{together, Follows, Tells}
use Rattle.rights_books.specs.declared.row_claim.Row.{Row}
use Rattle.rights_books.specs.declared.row_claim.RowClaim.{RowClaim}
use Rattle.rights_books.specs.declared.row_claim.RowClaim.TheVariants.{Part, Kept}
use Rattle.rights_books.specs.RowWeights.{part_in}
use Rattle.rights_books.specs.RowRules.{Lawful, at}
use Rattle.rights_books.proofs.RowSameness.{same_row, row_eq, row_self}

at_self : (n : ℕ) (r : Row) → at n n r ≡ 1
at_self n r = rw (eq-eqb n n refl) refl

-- 1 for this row of this part
abbrev hit : ℕ → Row → ℕ → Row → ℕ
hit n r k s = if k == n then (if same_row r s then 1 else 0) else 0

hit_self : (n : ℕ) (r : Row) → hit n r n r ≡ 1
hit_self n r = rw (eq-eqb n n refl, row_self r) refl

hit_only : (n : ℕ) (r s : Row) → 0 < hit n r n s → s ≡ r
hit_only n r s some = go (same_row r s) refl (subst (λ (b : Bool). 0 < (if b then (if same_row r s then 1 else 0) else 0)) (eq-eqb n n refl) some)
  where
    go : (b : Bool) → same_row r s ≡ b → 0 < (if b then 1 else 0) → s ≡ r
    go true e some' = sym (row_eq r s e)
    go false e some' = absurd (omega arith)

hit_le : (n : ℕ) (r : Row) (k : ℕ) (s : Row) → hit n r k s ≤ at n k s
hit_le n r k s = go (k == n) (same_row r s)
  where
    go : (a b : Bool) → (if a then (if b then 1 else 0) else 0) ≤ (if a then 1 else 0)
    go true true = omega arith
    go true false = omega arith
    go false true = omega arith
    go false false = omega arith

parts_le : (n : ℕ) (r : Row) (rest : List RowClaim) → weigh (part_in (hit n r)) rest ≤ weigh (part_in (at n)) rest
parts_le n r [] = omega arith
parts_le n r (Part k s ∷ cs) = let here = hit_le n r k s in let there = parts_le n r cs in omega arith
parts_le n r (Kept k s ∷ cs) = let there = parts_le n r cs in omega arith

-- the account in a part's lock is no twin
pub part_is_no_twin : (n k : ℕ) (r s : Row) → Part n r ∷ [] ≢ Kept k s ∷ []
part_is_no_twin n k r s e = let counts = ap (weigh (part_in (λ j row. 1))) e in absurd (omega arith)

shown : (n : ℕ) (r s : Row) (rest : List RowClaim) → Lawful (together (Part n r ∷ Kept n s ∷ []) rest) → r ≡ s
shown n r s rest law =
    let one = at_self n r in
    let alone = law.alone n in
    let few = parts_le n s rest in
    let self = hit_self n s in
    let twins = law.twins (hit n s) in hit_only n s r (omega arith)

pub tells : (n k : ℕ) (r s : Row) → n ≡ k → Tells Lawful (Part n r ∷ Kept k s ∷ []) (r ≡ s)
tells n k r s e = subst (λ (k' : ℕ). Tells Lawful (Part n r ∷ Kept k' s ∷ []) (r ≡ s)) e (shown n r s)

notes_one : (n : ℕ) (r s new : Row) → Follows Lawful (Part n r ∷ Kept n s ∷ []) (Part n new ∷ Kept n new ∷ []) (r ≡ s)
notes_one n r s new rest law =
    let same = shown n r s rest law in (
      record {
        twins = λ h. let p = law.twins h in let q = ap (h n) same in omega arith;
        alone = λ j. law.alone j;
      },
      same,
    )

pub notes : (n k : ℕ) (r s new : Row) → n ≡ k → Follows Lawful (Part n r ∷ Kept k s ∷ []) (Part n new ∷ Kept k new ∷ []) (r ≡ s)
notes n k r s new e = subst (λ (k' : ℕ). Follows Lawful (Part n r ∷ Kept k' s ∷ []) (Part n new ∷ Kept k' new ∷ []) (r ≡ s)) e (notes_one n r s new)
