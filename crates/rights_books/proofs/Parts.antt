-- A share of a seat's view and the roster beside it agree on what the seat has; a seat's own share and one more of its
-- entry are too much, so the two are of two seats. Assumes `Logic`.
use Rattle.std.proofs.Common.{◌≡◌, ℕ, zero, suc, ◌+◌, List, [], ◌∷◌, sym, refl, ap, subst, arith}
use mathlib.Core.Option.{some}
use lib.ListN.{get_elem?}
use native.Mathlib.Decide.{ℕ_discrete}
use mathlib.Mathlib.Data.Part.{◌∈◌, mem_unique}
use seplogic.Ra.Pcs.{OpDef, OpDef-comm}
use seplogic.Ra.Ura.{Ura}
use seplogic.Ra.Constructions.Prod
use seplogic.Ra.Instances.Ag
use base.Fraction.{full_share}
use base.Share.{quarter, three_quarters}
use base.FractionLaws.{not-OpDef-full_share}
use base.Share
use base.Stored.{Gv, Coded}
use base.SetCodes.{coded, SetCoded-set}
use base.Algebras.{pcs, shares}
use base.Logic.{SProp, ent, sep, ex, guard, emp, id⊢, via, ex_e, guard_e, guard_i}
use base.Fml.{Lft, Share, Fml, ftrue, fbor, fshr_bor}
use base.Shift.{Keyless}
use ghost.Rules.{Halves}
use types.Logic.{Logic, sem, lfts}
use types.Keyed.{entry, entries_beside, entry_cut, entry_glue, entry_keyless}
use types.Kit.{‵, raw, ◌⊛◌, given, later, ◌$◌, ◌∵◌, !, qed, by, move, keep, drop, split, fpick, fpack, learn, check, use0, use1, use2, rewrite, done, updating, now}
use types.Kit as Kit
use types.Tokens.{bor_fracture}
use denote.Sharing.{ShrLaws, one}
use denote.SharingLaws.{one_shr_laws}
use denote.Struct.Lending.{Lends}
use Rattle.atomic_table.specs.Seated.{itself, halved, seen, unused, roster, TableId, badge_owns}
use Rattle.rights_books.specs.Shown.{part, shown_shares, At, Differ}

module _ {M : Type 1} {𝓤 : Ura M} (𝓛 : Logic 𝓤) where
  open 𝓛 use {H, A}

  abbrev Pr : Type 2
  Pr = SProp 𝓤

  abbrev ◌⊢◌ : Pr → Pr → Type 1
  P ⊢ Q = ent 𝓤 P Q

  abbrev ◌∗◌ : Pr → Pr → Pr
  P ∗ Q = sep 𝓤 P Q

  abbrev ⟦◌⟧ : Fml → Pr
  ⟦ P ⟧ = sem 𝓛 P

  infix 26 ◌⊢◌
  infixr 35 ◌∗◌
  module _ {V : Type 0} (cv : Coded V) (γ : ℕ) where
    abbrev c : V → Gv
    c = cv.code

    same : (v : Gv) → ◌∈◌ {α = Gv} v ((Ag.op (SetCoded-set (coded itself))) v v)
    same v = Ag.idem (SetCoded-set (coded itself)) v

    halving : (q : Share) (v : Gv) → ◌∈◌ {α = Share × Gv} (q, v) (halved.op (Share.left q, v) (Share.right q, v))
    halving q v = Prod.mk-mem-op Share.op (Ag.op (SetCoded-set (coded itself))) {a = Share.left q} {a' = Share.right q} {x = q} {b = v} {b' = v} {y = v} (Share.halves q) (same v)

    cut_half : (k : ℕ) (v : V) (q : Share) → ⟦ seen c γ k q v ⟧ ⊢ ⟦ seen c γ k (Share.left q) v ⟧ ∗ ⟦ seen c γ k (Share.right q) v ⟧
    cut_half k v q = entry_cut halved 𝓛 γ k (Share.left q, c v) (Share.right q, c v) (q, c v) (halving q (c v))

    join_half : (k : ℕ) (v : V) (q : Share) → ⟦ seen c γ k (Share.left q) v ⟧ ∗ ⟦ seen c γ k (Share.right q) v ⟧ ⊢ ⟦ seen c γ k q v ⟧
    join_half k v q = let l : Share × Gv = (Share.left q, c v) in let r : Share × Gv = (Share.right q, c v) in let F : Share × Gv → Pr = λ x. guard 𝓤 (x ∈ halved.op l r) ⟦ entry halved γ k x ⟧ in
        via 𝓤 (ex 𝓤 F) (entry_glue halved 𝓛 γ k l r) (ex_e 𝓤 F (λ x. guard_e 𝓤 (x ∈ halved.op l r) ⟦ entry halved γ k x ⟧ (λ m.
        subst (λ (y : Share × Gv). ⟦ entry halved γ k x ⟧ ⊢ ⟦ entry halved γ k y ⟧) (mem_unique (halved.op l r) m (halving q (c v))) (id⊢ 𝓤 ⟦ entry halved γ k x ⟧))))

    -- the roster's quarter agrees with any share of a seat's view
    alike : (k : ℕ) (q : Share) (w v : V) → ⟦ seen c γ k quarter w ⟧ ∗ ⟦ seen c γ k q v ⟧ ⊢ guard 𝓤 (w ≡ v) (⟦ seen c γ k quarter w ⟧ ∗ ⟦ seen c γ k q v ⟧)
    alike k q w v = let F : Share × Gv → Pr = λ x. guard 𝓤 (x ∈ halved.op (quarter, c w) (q, c v)) ⟦ entry halved γ k x ⟧ in let Both : Pr = ⟦ seen c γ k quarter w ⟧ ∗ ⟦ seen c γ k q v ⟧ in
        via 𝓤 (ex 𝓤 F) (entry_glue halved 𝓛 γ k (quarter, c w) (q, c v)) (ex_e 𝓤 F (λ x. guard_e 𝓤 (x ∈ halved.op (quarter, c w) (q, c v)) ⟦ entry halved γ k x ⟧ (λ m.
        via 𝓤 Both (entry_cut halved 𝓛 γ k (quarter, c w) (q, c v) x m) (guard_i 𝓤 (w ≡ v) Both (cv.inj w v m.0.1)))))

    pub found : (vs : List V) (k i j : ℕ) (q : Share) (v : V) → j ≡ k + i → ⟦ roster c γ k vs ⟧ ∗ ⟦ seen c γ j q v ⟧ ⊢ guard 𝓤 (get_elem? vs i ≡ some v) (⟦ roster c γ k vs ⟧ ∗ ⟦ seen c γ j q v ⟧)
    found [] k i j q v e = qed 𝓛 (‵ (roster c γ k []) ∷ ‵ (seen c γ j q v) ∷ []) ∵ fpick ! (λ d. move ! (1 ∷ 0 ∷ []) $
        use2 𝓛 (given (OpDef halved.op (q, c v) (full_share, c d)) (‵ (seen c γ j q v) ⊛ ‵ (unused c γ k d))) (entries_beside halved 𝓛 γ k j (λ _. (full_share, c d)) (q, c v) (omega arith)) $
        learn ! (λ x. absurd (not-OpDef-full_share q ((OpDef-comm (pcs shares) {a = q} {b = full_share}).0 x.0))))
    found (w ∷ ws) k zero j q v e = let is : j ≡ k = omega arith in qed 𝓛 ((‵ (seen c γ k quarter w) ⊛ ‵ (roster c γ (suc k) ws)) ∷ ‵ (seen c γ j q v) ∷ []) ∵ split ! $ rewrite ! 2 (λ (m : ℕ). ‵ (seen c γ m q v)) is refl $ move ! (0 ∷ 2 ∷ []) $
        use2 𝓛 (given (w ≡ v) (‵ (seen c γ k quarter w) ⊛ ‵ (seen c γ k q v))) (alike k q w v) $ learn ! (λ so. check ! (ap some so) $ split ! $
        rewrite ! 1 (λ (m : ℕ). ‵ (seen c γ m q v)) (sym is) refl $ move ! (0 ∷ 2 ∷ []) $ Kit.join ! $ done !)
    found (w ∷ ws) k (suc i) j q v e = qed 𝓛 ((‵ (seen c γ k quarter w) ⊛ ‵ (roster c γ (suc k) ws)) ∷ ‵ (seen c γ j q v) ∷ []) ∵ split ! $ move ! (1 ∷ 2 ∷ []) $
        use2 𝓛 (given (get_elem? ws i ≡ some v) (‵ (roster c γ (suc k) ws) ⊛ ‵ (seen c γ j q v))) (found ws (suc k) i j q v (omega arith)) $ learn ! (λ at. check ! at $ split ! $
        move ! (2 ∷ 0 ∷ []) $ Kit.join ! $ done !)

    whole_of : (v : Gv) → ◌∈◌ {α = Share × Gv} (full_share, v) (halved.op (quarter, v) (three_quarters, v))
    whole_of v = Prod.mk-mem-op Share.op (Ag.op (SetCoded-set (coded itself))) {a = quarter} {a' = three_quarters} {x = full_share} {b = v} {b' = v} {y = v} Share.quarters (same v)

    whole : (k : ℕ) (w v : V) → ⟦ seen c γ k quarter w ⟧ ∗ ⟦ seen c γ k three_quarters v ⟧ ⊢ ⟦ seen c γ k full_share w ⟧
    whole k w v = let F : Share × Gv → Pr = λ x. guard 𝓤 (x ∈ halved.op (quarter, c w) (three_quarters, c v)) ⟦ entry halved γ k x ⟧ in
        via 𝓤 (ex 𝓤 F) (entry_glue halved 𝓛 γ k (quarter, c w) (three_quarters, c v)) (ex_e 𝓤 F (λ x. guard_e 𝓤 (x ∈ halved.op (quarter, c w) (three_quarters, c v)) ⟦ entry halved γ k x ⟧ (λ m.
        subst (λ (y : Share × Gv). ⟦ entry halved γ k y ⟧ ⊢ ⟦ seen c γ k full_share w ⟧) m.1 (id⊢ 𝓤 ⟦ seen c γ k full_share w ⟧))))

    beyond : (k : ℕ) (q : Share) (w v : V) (Z : Pr) → ⟦ seen c γ k full_share w ⟧ ∗ ⟦ seen c γ k q v ⟧ ⊢ Z
    beyond k q w v Z = let F : Share × Gv → Pr = λ x. guard 𝓤 (x ∈ halved.op (full_share, c w) (q, c v)) ⟦ entry halved γ k x ⟧ in
        via 𝓤 (ex 𝓤 F) (entry_glue halved 𝓛 γ k (full_share, c w) (q, c v)) (ex_e 𝓤 F (λ x. guard_e 𝓤 (x ∈ halved.op (full_share, c w) (q, c v)) ⟦ entry halved γ k x ⟧ (λ m. absurd (not-OpDef-full_share q m.0.0))))

    -- a seat's own share, and one more of its entry, are too much
    over : (vs : List V) (k i j : ℕ) (q : Share) (v w : V) (Z : Pr) → j ≡ k + i → ⟦ roster c γ k vs ⟧ ∗ (⟦ seen c γ j three_quarters v ⟧ ∗ ⟦ seen c γ j q w ⟧) ⊢ Z
    over [] k i j q v w Z e = qed 𝓛 (‵ (roster c γ k []) ∷ ‵ (seen c γ j three_quarters v) ∷ ‵ (seen c γ j q w) ∷ []) ∵ fpick ! (λ d. move ! (1 ∷ 0 ∷ []) $
        use2 𝓛 (given (OpDef halved.op (three_quarters, c v) (full_share, c d)) (‵ (seen c γ j three_quarters v) ⊛ ‵ (unused c γ k d))) (entries_beside halved 𝓛 γ k j (λ _. (full_share, c d)) (three_quarters, c v) (omega arith)) $
        learn ! (λ x. absurd (not-OpDef-full_share three_quarters ((OpDef-comm (pcs shares) {a = three_quarters} {b = full_share}).0 x.0))))
    over (x ∷ xs) k zero j q v w Z e = let is : j ≡ k = omega arith in qed 𝓛 ((‵ (seen c γ k quarter x) ⊛ ‵ (roster c γ (suc k) xs)) ∷ ‵ (seen c γ j three_quarters v) ∷ ‵ (seen c γ j q w) ∷ []) ∵ split ! $
        rewrite ! 2 (λ (m : ℕ). ‵ (seen c γ m three_quarters v)) is refl $ rewrite ! 3 (λ (m : ℕ). ‵ (seen c γ m q w)) is refl $ move ! (0 ∷ 2 ∷ []) $
        use2 𝓛 (‵ (seen c γ k full_share x)) (whole k x v) $ move ! (0 ∷ 2 ∷ []) $ use2 𝓛 (raw Z) (beyond k q x w Z) $ keep ! (0 ∷ []) $ done !
    over (x ∷ xs) k (suc i) j q v w Z e = qed 𝓛 ((‵ (seen c γ k quarter x) ⊛ ‵ (roster c γ (suc k) xs)) ∷ ‵ (seen c γ j three_quarters v) ∷ ‵ (seen c γ j q w) ∷ []) ∵ split ! $ drop ! $
        by ! (over xs (suc k) i j q v w Z (omega arith))

  module _ {V : Type 0} (cv : Coded V) (z : TableId) (i j : ℕ) (all : List V) (q : Share) where
    abbrev mine : List V → Pr
    mine vs = ⟦ badge_owns cv.code z i vs ⟧

    abbrev theirs : List V → Pr
    theirs us = ⟦ part cv.code z j us q ⟧

    abbrev rows : Pr
    rows = ⟦ roster cv.code z.views_name 0 all ⟧

    two_seats : (v w : V) (vs us : List V) → Dec (j ≡ i) → rows ∗ (mine (v ∷ vs) ∗ theirs (w ∷ us)) ⊢ guard 𝓤 (¬ (j ≡ i)) (rows ∗ (mine (v ∷ vs) ∗ theirs (w ∷ us)))
    two_seats v w vs us (yes e) = let Z : Pr = guard 𝓤 (¬ (j ≡ i)) (rows ∗ (mine (v ∷ vs) ∗ theirs (w ∷ us))) in
        subst (λ (m : ℕ). rows ∗ (mine (v ∷ vs) ∗ ⟦ part cv.code z m (w ∷ us) q ⟧) ⊢ Z) (sym e) (over cv z.views_name all 0 i i q v w Z (omega arith))
    two_seats v w vs us (no h) = guard_i 𝓤 (¬ (j ≡ i)) _ h

    pub differs : (vs us : List V) → rows ∗ (mine vs ∗ theirs us) ⊢ guard 𝓤 (Differ i vs j us) (rows ∗ (mine vs ∗ theirs us))
    differs [] us = guard_i 𝓤 (Unit {0}) _ tt
    differs (v ∷ vs) [] = guard_i 𝓤 (Unit {0}) _ tt
    differs (v ∷ vs) (w ∷ us) = two_seats v w vs us (ℕ_discrete j i)

  module _ {V : Type 0} (cv : Coded V) (z : TableId) (id : ℕ) where
    abbrev Φ : List V → Share → Fml
    Φ = part cv.code z id

    cut_part : (vs : List V) (q : Share) → ⟦ Φ vs q ⟧ ⊢ ⟦ Φ vs (Share.left q) ⟧ ∗ ⟦ Φ vs (Share.right q) ⟧
    cut_part [] q = qed 𝓛 (‵ ftrue ∷ []) ∵ use0 𝓛 (‵ ftrue) (id⊢ 𝓤 (emp 𝓤)) $ done !
    cut_part (v ∷ vs) q = cut_half cv z.views_name id v q

    join_part : (vs : List V) (q : Share) → ⟦ Φ vs (Share.left q) ⟧ ∗ ⟦ Φ vs (Share.right q) ⟧ ⊢ ⟦ Φ vs q ⟧
    join_part [] q = qed 𝓛 (‵ ftrue ∷ ‵ ftrue ∷ []) ∵ drop ! $ done !
    join_part (v ∷ vs) q = join_half cv z.views_name id v q

    pub parts_halve : (vs : List V) → Halves 𝓤 H A (Φ vs)
    parts_halve vs = record { cut = cut_part vs; join = join_part vs }

    pub stands : (all vs : List V) (q : Share) → ⟦ roster cv.code z.views_name 0 all ⟧ ∗ ⟦ Φ vs q ⟧ ⊢ guard 𝓤 (At all id vs) (⟦ roster cv.code z.views_name 0 all ⟧ ∗ ⟦ Φ vs q ⟧)
    stands all [] q = guard_i 𝓤 (Unit {0}) _ tt
    stands all (v ∷ vs) q = found cv z.views_name all 0 id id q v (omega arith)

    -- the same of the share that a seat owns
    pub sits : (all vs : List V) → ⟦ roster cv.code z.views_name 0 all ⟧ ∗ ⟦ badge_owns cv.code z id vs ⟧ ⊢ guard 𝓤 (At all id vs) (⟦ roster cv.code z.views_name 0 all ⟧ ∗ ⟦ badge_owns cv.code z id vs ⟧)
    sits all [] = guard_i 𝓤 (Unit {0}) _ tt
    sits all (v ∷ vs) = found cv z.views_name all 0 id id three_quarters v (omega arith)

    pub lends : (vs : List V) (l : Lft) → Lends 𝓛 (badge_owns cv.code z id vs) (one (Φ vs)) l
    lends [] l ν ts inc sp = qed 𝓛 (‵ (fbor ν (Φ [] full_share)) ∷ raw (lfts 𝓛 ts) ∷ []) {P = H.⇛ (sep 𝓤 (sem 𝓛 (fshr_bor ν (Φ []))) (lfts 𝓛 ts))} (updating ! $ bor_fracture ! tt (Φ []) full_share $ now ! $ done !)
    lends (v ∷ vs) l ν ts inc sp = qed 𝓛 (‵ (fbor ν (Φ (v ∷ vs) three_quarters)) ∷ raw (lfts 𝓛 ts) ∷ []) {P = H.⇛ (sep 𝓤 (sem 𝓛 (fshr_bor ν (Φ (v ∷ vs)))) (lfts 𝓛 ts))} (updating ! $ bor_fracture ! tt (Φ (v ∷ vs)) three_quarters $ now ! $ done !)

pub parts_keyless : {V : Type 0} (c : V → Gv) (z : TableId) (id : ℕ) (vs : List V) (q : Share) → Keyless (part c z id vs q)
parts_keyless c z id [] q = tt
parts_keyless c z id (v ∷ vs) q = entry_keyless halved z.views_name id (q, c v)

pub shared_laws : {V : Type 0} (c : V → Gv) (z : TableId) (id : ℕ) (vs : List V) → ShrLaws (shown_shares c z id vs)
shared_laws c z id vs = one_shr_laws (part c z id vs)
