-- Laws of nodes that name something, for the laws of traits.
use Rattle.std.proofs.Common.{Bool, true, false, ◌≡◌, ◌≢◌, ℕ, ◌+◌, ◌-◌, ◌*◌, ◌/◌, ◌%◌, ◌<◌, ◌≤◌, List, Option, Some, None, sym, ap, ◌∙◌, inl, inr, arith}
use Rattle.std.proofs.lemmas.List.{get_or_past}
use Rattle.std.proofs.lemmas.Nat.{div-mul-add, div-add-mod'}
use Rattle.std.proofs.lemmas.Bool.{cases_eq, cases_lt}
use Rattle.std.proofs.Math.Nat.{mul-le-mul_left}
use Rattle.nodes.specs.Laws.{no_leaf, times_positive}
use Rattle.nodes.specs.Tree.{UsefulIn, UsefulBelow, ShapedIn, ShapedBelow, AsksEither, AsksHolding, find_in, find_below, entry_at}

-- the indexes of an entry lie within those of its node
pub within : (k e span : ℕ) → k < e → k * span + span ≤ e * span
within k e span h = let more : k + 1 ≤ e = omega arith in omega (arith, mul-le-mul_left span more)

-- an index that is none of an entry's own lies before or past them
elsewhere : (k i span : ℕ) → k ≢ i / span → k * span ≤ i → i < k * span + span → ⊥
elsewhere k i span ne from to =
    let rest : i - k * span < span = omega arith in
    let at : k * span + (i - k * span) ≡ i = omega arith in
    ne (sym (rw at at (div-mul-add k span (i - k * span) rest)))

module _ {C : Type 0} (Useful : (ℕ → ℕ → Bool) → ℕ → Option C → Type 0) (Shaped : Option C → Type 0) (span : ℕ)
    (none : (asked : ℕ → ℕ → Bool) (first : ℕ) → Useful asked first None) where
  -- what holds of each entry there is holds of all
  pub entries_below : (e : ℕ) (xs : List (Option C)) → ShapedIn Shaped e xs → (asked : ℕ → ℕ → Bool) (first : ℕ)
      → ((k : ℕ) → k < e → Useful asked (first + k * span) (entry_at xs k)) → UsefulIn Useful span asked first xs
  entries_below e xs w asked first each k = elim (cases_lt k e) [
    | inl lt ↦ each k lt
    | inr ge ↦
        let past : entry_at xs k ≡ None = get_or_past xs k None (omega (arith, w.0)) in
        rw past (none asked (first + k * span))
  ]

  module _ (either : (asked one other : ℕ → ℕ → Bool) (first : ℕ) (s : Option C) → Shaped s → AsksEither first (first + span) asked one other
      → Useful one first s → Useful other first s → Useful asked first s)
      (never : (first : ℕ) (s : Option C) → Useful (λ _ _. false) first s) where
    -- a test that asks about no node of an entry
    unasked : (asked : ℕ → ℕ → Bool) (first : ℕ) (s : Option C) → Shaped s
        → ((start end : ℕ) → first ≤ start → start < end → end ≤ first + span → asked start end ≡ true → ⊥) → Useful asked first s
    unasked asked first s w elsewhere_all =
        either asked (λ _ _. false) (λ _ _. false) first s w (λ start end from some to a. absurd (elsewhere_all start end from some to a)) (never first s) (never first s)

    -- a test that asks about no node but on the way to an index: what holds below the one entry there holds of all
    pub way_in : (e : ℕ) (asked : ℕ → ℕ → Bool) (first i : ℕ) (xs : List (Option C)) → ShapedIn Shaped e xs
        → AsksHolding asked first (first + i) → Useful asked (first + i / span * span) (entry_at xs (i / span)) → UsefulIn Useful span asked first xs
    way_in e asked first i xs w test there =
        entries_below e xs w asked first (λ k lt. elim (cases_eq k (i / span)) [
          | inl same ↦ rw same there
          | inr ne ↦
              unasked asked (first + k * span) (entry_at xs k) (w.1 k)
              (λ start end from some to a. let h = test start end (omega arith) some a in elsewhere k i span ne (omega arith) (omega arith))
        ])

    -- the same of a range of entries, where the index may lie before it or past it
    pub way_from : (e : ℕ) (asked : ℕ → ℕ → Bool) (first i : ℕ) (xs : List (Option C)) → ShapedIn Shaped e xs
        → (first ≤ i → i < first + e * span → UsefulIn Useful span asked first xs)
        → ((start end : ℕ) → asked start end ≡ true → (start ≤ i) × (i < end)) → UsefulIn Useful span asked first xs
    way_from e asked first i xs w inside holds =
        let none_here : ((k start end : ℕ) → k < e → first + k * span ≤ start → end ≤ first + k * span + span → start ≤ i → i < end → ⊥) → UsefulIn Useful span asked first xs =
        λ no. entries_below e xs w asked first (λ k lt.
        unasked asked (first + k * span) (entry_at xs k) (w.1 k)
        (λ start end from some to a. let h = holds start end a in no k start end lt from to h.0 h.1)) in
        elim (cases_lt i first) [
          | inl before ↦ none_here (λ k start end lt from to at below. omega arith)
          | inr from ↦ elim (cases_lt i (first + e * span)) [
            | inl to ↦ inside from to
            | inr past ↦ none_here (λ k start end lt from to at below. let far = within k e span lt in omega arith)
          ]
        ]

    module _ {L : Type 0} (find : Option C → ℕ → Option L)
        (found : (asked : ℕ → ℕ → Bool) (first i : ℕ) (s : Option C) (t : L) → Shaped s → find s i ≡ Some t
        → ((start end : ℕ) → asked start end ≡ true → (start ≤ first + i) × (first + i < end)) → Useful asked first s) where
      pub found_in : (e : ℕ) (asked : ℕ → ℕ → Bool) (first i : ℕ) (xs : List (Option C)) (t : L) → ShapedIn Shaped e xs
          → find_in find span xs i ≡ Some t → ((start end : ℕ) → asked start end ≡ true → (start ≤ first + i) × (first + i < end))
          → UsefulIn Useful span asked first xs
      found_in e asked first i xs t w is holds =
          entries_below e xs w asked first (λ k lt. elim (cases_eq k (i / span)) [
            | inl same ↦
                let at : k * span + i % span ≡ i = rw same (div-add-mod' i span) in
                found asked (first + k * span) (i % span) (entry_at xs k) t (w.1 k) (rw same is)
                (λ start end a. let h = holds start end a in (omega arith, omega arith))
            | inr ne ↦
                unasked asked (first + k * span) (entry_at xs k) (w.1 k)
                (λ start end from some to a. let h = holds start end a in elsewhere k i span ne (omega arith) (omega arith))
          ])

      -- the same of a range of entries, where the index may lie before it or past it
      pub found_from : (e : ℕ) (asked : ℕ → ℕ → Bool) (first i : ℕ) (xs : List (Option C)) (t : L) → ShapedIn Shaped e xs
          → (first ≤ i → i < first + e * span → find_in find span xs (i - first) ≡ Some t)
          → ((start end : ℕ) → asked start end ≡ true → (start ≤ i) × (i < end)) → UsefulIn Useful span asked first xs
      found_from e asked first i xs t w inside holds =
          way_from e asked first i xs w
          (λ from to. found_in e asked first (i - first) xs t w (inside from to) (λ start end a. let h = holds start end a in (omega arith, omega arith))) holds

module _ {B C : Type 0} (slots : B → List (Option C)) (Useful : (ℕ → ℕ → Bool) → ℕ → Option C → Type 0) (span : ℕ) where
  pub never_below : ((first : ℕ) (s : Option C) → Useful (λ _ _. false) first s)
      → (e first : ℕ) (s : Option B) → UsefulBelow slots Useful span e (λ _ _. false) first s
  never_below never e first None = tt
  never_below never e first (Some b) = (λ no. absurd (no_leaf no), λ k. never (first + k * span) (entry_at (slots b) k))

  module _ (Shaped : Option C → Type 0) (Counted : B → Type 0) (positive : 0 < span) (none : (asked : ℕ → ℕ → Bool) (first : ℕ) → Useful asked first None)
      (either : (asked one other : ℕ → ℕ → Bool) (first : ℕ) (s : Option C) → Shaped s → AsksEither first (first + span) asked one other
      → Useful one first s → Useful other first s → Useful asked first s) where
    pub either_below : (e : ℕ) → 0 < e → (asked one other : ℕ → ℕ → Bool) (first : ℕ) (s : Option B) → ShapedBelow slots Shaped Counted e s
        → AsksEither first (first + e * span) asked one other → UsefulBelow slots Useful span e one first s → UsefulBelow slots Useful span e other first s
        → UsefulBelow slots Useful span e asked first s
    either_below e h asked one other first None w test p q = tt
    either_below e h asked one other first (Some b) w test p q =
        let wide = times_positive e span h positive in (
          λ is empty. elim (test first (first + e * span) (omega arith) (omega arith) (omega arith) is) [ inl o ↦ p.0 o empty | inr o ↦ q.0 o empty ],
          entries_below Useful Shaped span none e (slots b) w.0 asked first (λ k lt.
              let far = within k e span lt in
              either asked one other (first + k * span) (entry_at (slots b) k) (w.0.1 k)
              (λ start end from some to is. test start end (omega arith) some (omega arith) is) (p.1 k) (q.1 k)),
        )

    module _ {L : Type 0} (find : Option C → ℕ → Option L) (find_none : (i : ℕ) → find None i ≡ None)
        (never : (first : ℕ) (s : Option C) → Useful (λ _ _. false) first s)
        (found : (asked : ℕ → ℕ → Bool) (first i : ℕ) (s : Option C) (t : L) → Shaped s → find s i ≡ Some t
        → ((start end : ℕ) → asked start end ≡ true → (start ≤ first + i) × (first + i < end)) → Useful asked first s) where
      pub found_below : (e : ℕ) (asked : ℕ → ℕ → Bool) (first i : ℕ) (s : Option B) (t : L) → ShapedBelow slots Shaped Counted e s
          → find_below slots find span s i ≡ Some t → ((start end : ℕ) → asked start end ≡ true → (start ≤ first + i) × (first + i < end))
          → UsefulBelow slots Useful span e asked first s
      found_below e asked first i None t w is holds = absurd (let no : ◌≡◌ {A = Option L} None (Some t) = is in cc)
      found_below e asked first i (Some b) t w is holds = (
        λ _ empty. (let nothing : find (entry_at (slots b) (i / span)) (i % span) ≡ None = ap (λ x. find x (i % span)) (empty (i / span)) ∙ find_none (i % span) in
            absurd (let no : ◌≡◌ {A = Option L} None (Some t) = sym nothing ∙ is in cc)),
        found_in Useful Shaped span none either never find found e asked first i (slots b) t w.0 is holds,
      )
