-- A rule that sees claims by their weights alone sees no difference where a view is cut in two or two are joined; so a
-- step keeps it that keeps it whatever the others have.
use Rattle.std.proofs.Common.{◌≡◌, ◌≢◌, ℕ, ap, ◌∙◌, inl, inr, List, [], ◌∷◌, ◌++◌, set, take, drop, flat_map, refl, sym, subst, arith}
use mathlib.Core.Option.{some, some-injective}
use Rattle.std.proofs.lemmas.Bool.{cases_eq}
use Rattle.atomic_table.proofs.Lists.{set_else}
use Rattle.rights_books.specs.Shown.{Tells as SeatsTell}
use lib.ListN.{get_elem?}
use Rattle.atomic_table.specs.Table.{Allows, Splits, Joins, keeps, Me}
use Rattle.geometry.specs.Weights.{weigh}
use Rattle.geometry.proofs.Weighing.{weigh-append}
use Rattle.rights_books.specs.ClaimRules.{together, Follows, Tells, Kept}
use Rattle.rights_books.proofs.Weighing.{weigh-cut, weigh-set_found, weigh-flat}

-- what the others have
abbrev others : {C : Type 0} → List (List C) → ℕ → List C
others views id = flat_map (λ x. x) (set views id [])

module _ {C : Type 0} where
  weigh-others : (h : C → ℕ) (views : List (List C)) (id : ℕ) (v w : List C) → get_elem? views id ≡ some v → weigh (λ x. weigh h x) (set views id w) ≡ together w (others views id) h
  weigh-others h views id v w at =
      let a = weigh-set_found (λ x. weigh h x) views id v w at in
      let b = weigh-set_found (λ x. weigh h x) views id v [] at in
      let c = weigh-flat h (set views id []) in omega arith

  weigh-mine : (h : C → ℕ) (views : List (List C)) (id : ℕ) (v : List C) → get_elem? views id ≡ some v → weigh (λ x. weigh h x) views ≡ together v (others views id) h
  weigh-mine h views id v at =
      let a = weigh-set_found (λ x. weigh h x) views id v v at in
      let b = weigh-others h views id v v at in omega arith

  -- a rule that sees claims by their weights goes over to all that weigh the same
  pub same_weights : (lawful : ((C → ℕ) → ℕ) → Type 0) (t u : (C → ℕ) → ℕ) → ((h : C → ℕ) → t h ≡ u h) → lawful t → lawful u
  same_weights lawful t u e l = subst lawful (λ i h. e h i) l

module _ {S C : Type 0} (lawful : ((C → ℕ) → ℕ) → Type 0) where
  pub allows : (slots id word : ℕ) (f : ℕ → ℕ) (m : Me S (List C)) (after : List C) (told : Type 0) → Follows lawful m.0 after told
      → Allows {S = S} {V = List C} (Kept lawful) slots id m word f (λ n w. (w.0 ≡ after) × (w.1 ≡ m.1) × told)
  allows slots id word f m after told follows s holds len at fits =
      let rest = others s.views id in
      let then = follows rest (same_weights lawful _ (together m.0 rest) (λ h. weigh-mine h s.views id m.0 at) holds) in (
        after,
        keeps,
        tt,
        same_weights lawful (together after rest) _ (λ h. sym (weigh-others h s.views id m.0 after at)) then.0,
        (refl, refl, then.1),
      )

  pub splits : (id n : ℕ) (v : List C) → Splits {S = S} {V = List C} (Kept lawful) id v (take n v) (drop n v)
  splits id n v s holds at =
      same_weights lawful _ _
      (λ h.
      let a = weigh-set_found (λ x. weigh h x) s.views id v (take n v) at in
      let b = weigh-append (λ x. weigh h x) (set s.views id (take n v)) (drop n v ∷ []) in
      let c = weigh-cut h n v in omega arith)
      holds

  pub joins : (id other : ℕ) (v w : List C) → Joins {S = S} {V = List C} (Kept lawful) id v other w (v ++ w) []
  joins id other v w s holds at apart there =
      same_weights lawful _ _
      (λ h.
      let a = weigh-set_found (λ x. weigh h x) s.views id v (v ++ w) at in
      let b = weigh-set_found (λ x. weigh h x) (set s.views id (v ++ w)) other w [] there in
      let c = weigh-append h v w in omega arith)
      holds

  -- two holders with different claims are two, and the others have the rest
  pub tells : (i j : ℕ) (v w : List C) (told : Type 0) → v ≢ w → Tells lawful (v ++ w) told → SeatsTell {S = S} {V = List C} (Kept lawful) i (v ∷ []) j (w ∷ []) told
  tells i j v w told apart rule s holds one other = elim (cases_eq j i) [
    | inl e ↦ absurd (apart (some-injective v w (sym one ∙ (ap (λ k. get_elem? s.views k) (sym e) ∙ other))))
    | inr ne ↦ rule (others (set s.views i []) j) (same_weights lawful _ (together (v ++ w) (others (set s.views i []) j)) (λ h.
        let a = weigh-mine h s.views i v one in
        let b = weigh-flat h (set s.views i []) in
        let c = weigh-mine h (set s.views i []) j w (set_else s.views i j [] ne ∙ other) in
        let d = weigh-append h v w in omega arith) holds)
  ]
