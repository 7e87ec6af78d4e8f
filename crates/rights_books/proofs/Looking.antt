-- While two seats are lent their shares show what each has, and the rule stands for the roster of all views: so it
-- tells what it says of the two. Nothing runs. Assumes `Logic`.
use Rattle.std.proofs.Common.{◌≡◌, ℕ, List, [], ◌∷◌, length}
use mathlib.Core.List.{not-mem-nil}
use seplogic.Ra.Ura.{Ura}
use base.Stored.{Coded}
use base.Logic.{SProp, ent, sep, guard, emp, id⊢, via, upd_i}
use base.Fml.{Lft, Share, Fml, ftrue, fsep, fbor, fshr_bor, fnamed, flft}
use types.Logic.{Logic, sem}
use types.Kit.{‵, ◌⊛◌, some, given, later, ◌$◌, ◌∵◌, !, qed, move, drop, split, group, fsplit, fsplit3, fjoin, fjoin3, fpick, fpack, pick, learn, check, frame, assume, suffices, use0, use1, use2, use3, await, updating, now, done}
use types.Tokens.{shr_bor-open, obor_close}
use types.Within.{tokens_halve}
use denote.RattleType.{RattleType}
use denote.RawPtr.{Ptr}
use denote.Steps.{nothing}
use Rattle.atomic_table.specs.Table.{State}
use Rattle.atomic_table.specs.Seated.{TableId, age, place, names, shelf, row, roster, inner, standing, common, Placed, lasts, table_shares, badge_owns}
use Rattle.rights_books.specs.Shown.{part, shown_shares, At, Differ, Tells, TellsApart}
use Rattle.rights_books.proofs.Parts.{parts_halve, stands, sits, differs}

module _ {M : Type 1} {𝓤 : Ura M} (𝓛 : Logic 𝓤) (R : RattleType) {V : Type 0} (cv : Coded V) (holds : State R.Denot V → Type 0) (w p : Ptr) (z : TableId) where
  open 𝓛 use {H, A}

  abbrev Pr : Type 2
  Pr = SProp 𝓤

  abbrev ◌⊢◌ : Pr → Pr → Type 1
  P ⊢ Q = ent 𝓤 P Q

  abbrev ◌∗◌ : Pr → Pr → Pr
  P ∗ Q = sep 𝓤 P Q

  abbrev ⟦◌⟧ : Fml → Pr
  ⟦ P ⟧ = sem 𝓛 P

  infix 26 ◌⊢◌
  infixr 35 ◌∗◌
  abbrev C : Fml
  C = common R cv.code holds w p z

  abbrev I : Fml
  I = inner R cv.code holds w p z

  abbrev B : Fml
  B = fbor (age z) I

  module _ (F G : Fml) (φ : Type 0) (h : ⟦ I ⟧ ∗ (⟦ F ⟧ ∗ ⟦ G ⟧) ⊢ guard 𝓤 φ (⟦ I ⟧ ∗ (⟦ F ⟧ ∗ ⟦ G ⟧))) where
    reads : (n : ℕ) (s : Share) → A.named n B ∗ (A.lft (age z) s ∗ (⟦ F ⟧ ∗ ⟦ G ⟧)) ⊢ H.⇛ (guard 𝓤 φ (⟦ F ⟧ ∗ ⟦ G ⟧) ∗ A.lft (age z) s)
    reads n s = let Got : Pr = guard 𝓤 φ (⟦ F ⟧ ∗ ⟦ G ⟧) in let Back : Pr = ⟦ I ⟧ ∗ (emp 𝓤 ∗ Got) in
        via 𝓤 _ (qed 𝓛 (‵ (fnamed n B) ∷ ‵ (flft (age z) s) ∷ ‵ F ∷ ‵ G ∷ []) ∵ use0 𝓛 (‵ ftrue) (id⊢ 𝓤 (emp 𝓤)) $ move ! (1 ∷ 0 ∷ []) $ fjoin ! $ frame ! $ frame ! $
        assume ! (‵ I ⊛ ‵ ftrue) $ suffices ! _ (upd_i 𝓤 Back) $ split ! $ move ! (0 ∷ 2 ∷ 3 ∷ []) $ use3 𝓛 (given φ (‵ I ⊛ (‵ F ⊛ ‵ G))) h $ learn ! (λ so. split ! $ frame ! $
        move ! (1 ∷ []) $ frame ! $ check ! so $ split ! $ done !)) (𝓛.invs.invs_bor_acc n (age z) s I [] Got ((λ m. not-mem-nil m), tt))

    glimpse : (s : Share) → ⟦ C ⟧ ∗ (A.lft (age z) s ∗ (⟦ F ⟧ ∗ ⟦ G ⟧)) ⊢ H.⇛ (guard 𝓤 φ (A.lft (age z) s ∗ (⟦ F ⟧ ∗ ⟦ G ⟧)))
    glimpse s = qed 𝓛 (‵ C ∷ ‵ (flft (age z) s) ∷ ‵ F ∷ ‵ G ∷ []) {P = H.⇛ (guard 𝓤 φ (A.lft (age z) s ∗ (⟦ F ⟧ ∗ ⟦ G ⟧)))} (updating ! $ fsplit ! $ drop ! $
        use1 𝓛 (some (λ (n : ℕ). ‵ (fnamed n B))) (𝓛.invs.inv_named B) $ pick ! (λ n. group ! 4 $ use1 𝓛 (later (given φ (‵ F ⊛ ‵ G) ⊛ ‵ (flft (age z) s))) (reads n s) $ await ! tt $
        split ! $ learn ! (λ so. split ! $ now ! $ check ! so $ move ! (2 ∷ 0 ∷ 1 ∷ []) $ done !)))

  module _ (i j : ℕ) (vs us : List V) (φ : Type 0) (tells : Tells holds i vs j us φ) where
    abbrev one : Share → Fml
    one = part cv.code z i vs

    abbrev two : Share → Fml
    two = part cv.code z j us

    seen_in : (q r : Share) → ⟦ I ⟧ ∗ (⟦ one q ⟧ ∗ ⟦ two r ⟧) ⊢ guard 𝓤 φ (⟦ I ⟧ ∗ (⟦ one q ⟧ ∗ ⟦ two r ⟧))
    seen_in q r = qed 𝓛 (‵ I ∷ (‵ (one q) ⊛ ‵ (two r)) ∷ []) ∵ fpick ! (λ s. fsplit3 ! $ move ! (1 ∷ []) $ fsplit ! $ move ! (4 ∷ []) $ split ! $ move ! (3 ∷ 0 ∷ []) $
        use2 𝓛 (given (At s.views i vs) (‵ (roster cv.code z.views_name 0 s.views) ⊛ ‵ (one q))) (stands 𝓛 cv z i s.views vs q) $ learn ! (λ at. split ! $ move ! (0 ∷ 2 ∷ []) $
        use2 𝓛 (given (At s.views j us) (‵ (roster cv.code z.views_name 0 s.views) ⊛ ‵ (two r))) (stands 𝓛 cv z j s.views us r) $ learn ! (λ at'. split ! $
        move ! (5 ∷ []) $ fpick ! (λ so. check ! (tells s so.0 at at') $ nothing ! $ drop ! $ fpack ! (holds s × (length s.words ≡ z.words) × (length s.homes ≡ z.slots)) (λ _. ftrue) so $ move ! (4 ∷ 1 ∷ []) $ fjoin ! $ move ! (4 ∷ 0 ∷ 1 ∷ []) $ fjoin3 ! $ fpack ! (State R.Denot V) (standing R cv.code holds w p z) s $ move ! (0 ∷ 2 ∷ 1 ∷ []) $ done !))))

    abbrev pub Tokens : Lft → Lft → Lft → Share → Share → Share → Pr
    Tokens κ₀ κ₁ κ₂ q₀ q₁ q₂ = A.lft κ₀ q₀ ∗ (A.lft κ₁ q₁ ∗ A.lft κ₂ q₂)

    -- what the two seats tell, by the tokens of the three references
    pub agreed : (κ₀ κ₁ κ₂ : Lft) (q₀ q₁ q₂ : Share)
        → ⟦ table_shares R cv.code holds w p z κ₀ ⟧ ∗ (⟦ shown_shares cv.code z i vs κ₁ ⟧ ∗ (⟦ shown_shares cv.code z j us κ₂ ⟧ ∗ Tokens κ₀ κ₁ κ₂ q₀ q₁ q₂)) ⊢ H.⇛ (guard 𝓤 φ (Tokens κ₀ κ₁ κ₂ q₀ q₁ q₂))
    unfolding Rattle.atomic_table.specs.Seated.seal
    agreed κ₀ κ₁ κ₂ q₀ q₁ q₂ = let T : Pr = Tokens κ₀ κ₁ κ₂ q₀ q₁ q₂ in
        qed 𝓛 (‵ (fsep (lasts z κ₀) C) ∷ ‵ (fshr_bor κ₁ one) ∷ ‵ (fshr_bor κ₂ two) ∷ ‵ (flft κ₀ q₀) ∷ ‵ (flft κ₁ q₁) ∷ ‵ (flft κ₂ q₂) ∷ []) {P = H.⇛ (guard 𝓤 φ T)} (updating ! $ fsplit ! $
        move ! (0 ∷ 4 ∷ []) $ shr_bor-open ! tt (tokens_halve 𝓛 (age z)) (λ s. move ! (3 ∷ 5 ∷ []) $ shr_bor-open ! tt (parts_halve 𝓛 cv z i vs) (λ q.
        move ! (5 ∷ 6 ∷ []) $ shr_bor-open ! tt (parts_halve 𝓛 cv z j us) (λ r. move ! (6 ∷ 5 ∷ 3 ∷ 1 ∷ []) $ group ! 4 $
        use1 𝓛 (later (given φ (‵ (flft (age z) s) ⊛ (‵ (one q) ⊛ ‵ (two r))))) (glimpse (one q) (two r) φ (seen_in q r) s) $ await ! tt $ learn ! (λ so. split ! $ move ! (1 ∷ []) $ split ! $ move ! (2 ∷ []) $
        move ! (5 ∷ 0 ∷ []) $ obor_close ! tt $ drop ! $ move ! (4 ∷ 1 ∷ []) $ obor_close ! tt $ drop ! $ move ! (3 ∷ 2 ∷ []) $ obor_close ! tt $ drop ! $
        now ! $ check ! so $ move ! (2 ∷ 1 ∷ 0 ∷ []) $ done !)))))

  module _ (i j : ℕ) (vs us : List V) (φ : Type 0) (tells : TellsApart holds i vs j us φ) where
    abbrev mine : Fml
    mine = badge_owns cv.code z i vs

    abbrev theirs : Share → Fml
    theirs = part cv.code z j us

    seen_apart : (r : Share) → ⟦ I ⟧ ∗ (⟦ mine ⟧ ∗ ⟦ theirs r ⟧) ⊢ guard 𝓤 φ (⟦ I ⟧ ∗ (⟦ mine ⟧ ∗ ⟦ theirs r ⟧))
    seen_apart r = qed 𝓛 (‵ I ∷ (‵ mine ⊛ ‵ (theirs r)) ∷ []) ∵ fpick ! (λ s. let ros : Fml = roster cv.code z.views_name 0 s.views in fsplit3 ! $ move ! (1 ∷ []) $ fsplit ! $ move ! (4 ∷ []) $ split ! $ move ! (3 ∷ 0 ∷ 1 ∷ []) $
        use3 𝓛 (given (Differ i vs j us) (‵ ros ⊛ (‵ mine ⊛ ‵ (theirs r)))) (differs 𝓛 cv z i j s.views r vs us) $ learn ! (λ two. split ! $ move ! (1 ∷ []) $ split ! $ move ! (2 ∷ 0 ∷ []) $
        use2 𝓛 (given (At s.views i vs) (‵ ros ⊛ ‵ mine)) (sits 𝓛 cv z i s.views vs) $ learn ! (λ at. split ! $ move ! (0 ∷ 2 ∷ []) $
        use2 𝓛 (given (At s.views j us) (‵ ros ⊛ ‵ (theirs r))) (stands 𝓛 cv z j s.views us r) $ learn ! (λ at'. split ! $
        move ! (5 ∷ []) $ fpick ! (λ so. check ! (tells s so.0 two at at') $ nothing ! $ drop ! $ fpack ! (holds s × (length s.words ≡ z.words) × (length s.homes ≡ z.slots)) (λ _. ftrue) so $ move ! (4 ∷ 1 ∷ []) $ fjoin ! $ move ! (4 ∷ 0 ∷ 1 ∷ []) $ fjoin3 ! $ fpack ! (State R.Denot V) (standing R cv.code holds w p z) s $ move ! (0 ∷ 2 ∷ 1 ∷ []) $ done !)))))

    abbrev pub Left : Lft → Lft → Share → Share → Pr
    Left κ₀ κ₂ q₀ q₂ = ⟦ mine ⟧ ∗ (A.lft κ₀ q₀ ∗ A.lft κ₂ q₂)

    pub agreed_apart : (κ₀ κ₂ : Lft) (q₀ q₂ : Share) → ⟦ table_shares R cv.code holds w p z κ₀ ⟧ ∗ (⟦ shown_shares cv.code z j us κ₂ ⟧ ∗ Left κ₀ κ₂ q₀ q₂) ⊢ H.⇛ (guard 𝓤 φ (Left κ₀ κ₂ q₀ q₂))
    unfolding Rattle.atomic_table.specs.Seated.seal
    agreed_apart κ₀ κ₂ q₀ q₂ = let T : Pr = Left κ₀ κ₂ q₀ q₂ in
        qed 𝓛 (‵ (fsep (lasts z κ₀) C) ∷ ‵ (fshr_bor κ₂ theirs) ∷ ‵ mine ∷ ‵ (flft κ₀ q₀) ∷ ‵ (flft κ₂ q₂) ∷ []) {P = H.⇛ (guard 𝓤 φ T)} (updating ! $ fsplit ! $
        move ! (0 ∷ 4 ∷ []) $ shr_bor-open ! tt (tokens_halve 𝓛 (age z)) (λ s. move ! (3 ∷ 5 ∷ []) $ shr_bor-open ! tt (parts_halve 𝓛 cv z j us) (λ r.
        move ! (4 ∷ 3 ∷ 5 ∷ 1 ∷ []) $ group ! 4 $ use1 𝓛 (later (given φ (‵ (flft (age z) s) ⊛ (‵ mine ⊛ ‵ (theirs r))))) (glimpse mine (theirs r) φ (seen_apart r) s) $ await ! tt $ learn ! (λ so.
        split ! $ move ! (1 ∷ []) $ split ! $ move ! (4 ∷ 2 ∷ []) $ obor_close ! tt $ drop ! $ move ! (3 ∷ 2 ∷ []) $ obor_close ! tt $ drop ! $
        now ! $ check ! so $ move ! (2 ∷ 1 ∷ 0 ∷ []) $ done !))))
