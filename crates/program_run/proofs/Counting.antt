-- One place more is counted where something stands there, and the count stops at its largest: so it is the least of
-- what is there and that number, place by place.
use Rattle.std.proofs.Common.{◌≡◌, ◌∙◌, ℕ, ◌+◌, ◌<◌, ◌≤◌, ap, sym, refl, arith, List, [], ◌∷◌, ◌++◌, length, take, get_or, Option, Some, None, Bool, true, false, is_some, inl, inr}
use Rattle.std.proofs.Math.Nat.{min-eq_left, min-eq_right}
use Rattle.std.proofs.lemmas.Bool.{cases_lt, false≢true}
use Rattle.std.specs.Prelude.{min}
use Rattle.std.specs.List.{filter_map}
use Rattle.std.proofs.lemmas.List.{get_or_read, length-append, take_more}
use Rattle.std.proofs.lemmas.List.Elements.{filter_map-append}

abbrev pub there : {A : Type 0} → List (Option A) → ℕ
there places = length (filter_map (λ place. place) places)

pub one_there : {A : Type 0} (places : List (Option A)) (k : ℕ) (x : A) → k < length places → get_or places k None ≡ Some x
    → there (take (k + 1) places) ≡ there (take k places) + 1
one_there places k x low is =
    ap there (take_more places k None low ∙ ap (λ o. take k places ++ o ∷ []) is)
    ∙ ap length (filter_map-append (λ place. place) (take k places) (Some x ∷ []))
    ∙ length-append (filter_map (λ place. place) (take k places)) (x ∷ [])

pub none_there : {A : Type 0} (places : List (Option A)) (k : ℕ) → k < length places → get_or places k None ≡ None
    → there (take (k + 1) places) ≡ there (take k places)
none_there places k low is =
    ap there (take_more places k None low ∙ ap (λ o. take k places ++ o ∷ []) is)
    ∙ ap length (filter_map-append (λ place. place) (take k places) (None ∷ []))
    ∙ length-append (filter_map (λ place. place) (take k places)) []
    ∙ omega arith

most_is : (count there more most : ℕ) → more ≡ there + 1 → count ≡ min there most → min (count + 1) most ≡ min more most
most_is count there more most one is = elim (cases_lt there most) [
  | inl lt ↦ ap (λ n. min n most) (omega (arith, one, is ∙ min-eq_left (omega arith)))
  | inr ge ↦ min-eq_right (omega (arith, is ∙ min-eq_right ge)) ∙ sym (min-eq_right (omega (arith, one, ge)))
]

module _ {A : Type 0} (places : List (Option A)) (k : ℕ) (o : Option A) (count new most : ℕ) where
  pub counted : (k < length places) × (o ≡ get_or places k o) × (is_some o ≡ true) × (count ≡ min (there (take k places)) most) × (new ≡ min (count + 1) most) → new ≡ min (there (take (k + 1) places)) most
  counted h = by_item o refl
    where
      by_item : (x : Option A) → o ≡ x → new ≡ min (there (take (k + 1) places)) most
      by_item None is = absurd (false≢true (ap is_some (sym is) ∙ h.2))
      by_item (Some x) is =
          let more = one_there places k x h.0 (sym (get_or_read places k o h.0 h.1 None) ∙ is) in
          h.4 ∙ most_is count (there (take k places)) (there (take (k + 1) places)) most more h.3

  pub uncounted : (k < length places) × (o ≡ get_or places k o) × (is_some o ≡ false) × (count ≡ min (there (take k places)) most) × (new ≡ count) → new ≡ min (there (take (k + 1) places)) most
  uncounted h = by_item o refl
    where
      by_item : (x : Option A) → o ≡ x → new ≡ min (there (take (k + 1) places)) most
      by_item None is = h.4 ∙ h.3 ∙ ap (λ n. min n most) (sym (none_there places k h.0 (sym (get_or_read places k o h.0 h.1 None) ∙ is)))
      by_item (Some x) is = absurd (false≢true (sym h.2 ∙ ap is_some is))
