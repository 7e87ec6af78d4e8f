-- The test of two marks answers true exactly where they are equal.
use Rattle.std.proofs.Common.{◌≡◌, ℕ, ◌==◌, true, false, refl, sym, ap, eq-eqb, eqb-true, true≢false}
use Rattle.std.proofs.lemmas.Bool.{and_parts, and_from}
use Rattle.geometry.specs.declared.owner.Owner.{Owner}
use Rattle.geometry.specs.declared.owner.Owner.TheVariants.{Node, Data}
use Rattle.geometry.specs.declared.owner.Mark.{Mark}
use Rattle.geometry.specs.Mark.{same_owner, same_mark}

no : {A : Type 0} → false ≡ true → A
no e = absurd (true≢false (sym e))

pub owner_eq : (p q : Owner) → same_owner p q ≡ true → p ≡ q
owner_eq (Node k) (Node l) e = ap (λ (n : ℕ). Node n) (eqb-true k l e)
owner_eq (Node k) (Data l t) e = no e
owner_eq (Data k s) (Node l) e = no e
owner_eq (Data k s) (Data l t) e =
    let b = and_parts (k == l) (s == t) e in λ i. Data (eqb-true k l b.0 i) (eqb-true s t b.1 i)

pub owner_self : (p : Owner) → same_owner p p ≡ true
owner_self (Node k) = eq-eqb k k refl
owner_self (Data k s) = and_from (k == k) (s == s) (eq-eqb k k refl) (eq-eqb s s refl)

pub mark_eq : (m n : Mark) → same_mark m n ≡ true → m ≡ n
mark_eq m n e =
    let b = and_parts (m.address == n.address) (same_owner m.owner n.owner) e in
    λ i. record { address = eqb-true m.address n.address b.0 i; owner = owner_eq m.owner n.owner b.1 i }

pub mark_self : (m : Mark) → same_mark m m ≡ true
mark_self m = and_from (m.address == m.address) (same_owner m.owner m.owner) (eq-eqb m.address m.address refl) (owner_self m.owner)
