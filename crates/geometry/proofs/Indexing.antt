-- A fact of each item at its index is kept where indexes stay: in a front, behind a push, beside a change; where the
-- list is turned round, index k meets what stood at the last less k.
use Rattle.std.proofs.Common.{◌≡◌, ℕ, ◌-◌, ◌<◌, List, [], ◌∷◌, ◌++◌, length, get_or, set, reverse, refl, sym, ap, ◌∙◌, subst, ⊎_elim, arith}
use Rattle.std.proofs.lemmas.Bool.{cases_lt}
use Rattle.std.proofs.lemmas.List.{length-append, length-set, get_or_append_left, get_or-append_right, get_or-set_same, get_or-set_other, get_or-reverse, length-reverse}
use mathlib.Core.Logic.{dite}
use native.Mathlib.Decide.{ℕ_discrete}

module _ {A : Type 0} where
  abbrev pub EachAt : (ℕ → A → Type 0) → List A → Type 0
  EachAt P xs = (k : ℕ) (other : A) → k < length xs → P k (get_or xs k other)

  pub each_none : (P : ℕ → A → Type 0) → EachAt P []
  each_none P k other within = absurd (omega arith)

  pub each_front : (P : ℕ → A → Type 0) (xs ys : List A) → EachAt P (xs ++ ys) → EachAt P xs
  each_front P xs ys each k other within =
      let long = length-append xs ys in subst (P k) (get_or_append_left xs ys other k within) (each k other (omega arith))

  pub each_last : (P : ℕ → A → Type 0) (xs : List A) (x : A) → EachAt P (xs ++ x ∷ []) → P (length xs) x
  each_last P xs x each =
      let long = length-append xs (x ∷ []) in
      let at : get_or (xs ++ x ∷ []) (length xs) x ≡ x = get_or-append_right xs (x ∷ []) (length xs) (length xs) x refl (omega arith) ∙ (let zero_is : length xs - length xs ≡ 0 = omega arith in ap (λ i. get_or (x ∷ []) i x) zero_is) in
      subst (P (length xs)) at (each (length xs) x (omega arith))

  pub each_push : (P : ℕ → A → Type 0) (xs : List A) (x : A) → EachAt P xs → P (length xs) x → EachAt P (xs ++ x ∷ [])
  each_push P xs x each here k other within = ⊎_elim
      (λ low. subst (P k) (sym (get_or_append_left xs (x ∷ []) other k low)) (each k other low))
      (λ high.
      let long = length-append xs (x ∷ []) in
      let last : k ≡ length xs = omega arith in
      let zero_is : k - length xs ≡ 0 = omega arith in
      let at : get_or (xs ++ x ∷ []) k other ≡ x = get_or-append_right xs (x ∷ []) (length xs) k other refl high ∙ ap (λ i. get_or (x ∷ []) i other) zero_is in
      subst (P k) (sym at) (subst (λ i. P i x) (sym last) here))
      (cases_lt k (length xs))

  pub each_set : (P : ℕ → A → Type 0) (xs : List A) (i : ℕ) (x : A) → EachAt P xs → P i x → EachAt P (set xs i x)
  each_set P xs i x each here k other within =
      let long = length-set xs i x in
      dite (ℕ_discrete k i)
      (λ same. subst (λ j. P j (get_or (set xs i x) j other)) (sym same) (subst (P i) (sym (get_or-set_same xs i x other (omega arith))) here))
      (λ apart. subst (P k) (sym (get_or-set_other xs i k x other apart)) (each k other (omega arith)))

  pub each_reverse : (P Q : ℕ → A → Type 0) (xs : List A) (n : ℕ) → length xs ≡ n → ((k : ℕ) (x : A) → k < n → P (n - 1 - k) x → Q k x) → EachAt P xs → EachAt Q (reverse xs)
  each_reverse P Q xs n count turn each k other within =
      let long = length-reverse xs in
      let place : length xs - 1 - k ≡ n - 1 - k = omega arith in
      turn k (get_or (reverse xs) k other) (omega arith)
      (subst (P (n - 1 - k)) (sym (get_or-reverse xs k other (omega arith) ∙ ap (λ i. get_or xs i other) place)) (each (n - 1 - k) other (omega arith)))
