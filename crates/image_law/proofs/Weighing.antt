-- A list's weight is the sum over its items, whichever way they are grouped or counted: so what weighs something has an
-- item that does, and items of equal weights weigh the same.
use Rattle.std.proofs.Common.{◌≡◌, refl, sym, ◌∙◌, ap, subst, ℕ, zero, suc, ◌+◌, ◌*◌, ◌<◌, ◌≤◌, ◌⊎◌, inl, inr, List, [], ◌∷◌, ◌++◌, map, length, get_or, suc-mul, arith}
use Rattle.std.proofs.lemmas.Bool.Decides.{eqb_tells}
use Rattle.std.specs.List.{flat_map}
use Rattle.geometry.specs.Weights.{weigh}
use Rattle.geometry.proofs.Weighing.{weigh-append}
use Rattle.image_law.specs.Items.{sum_below, Among}

module _ {A : Type 0} where
  pub weigh_plus : (f g : A → ℕ) (xs : List A) → weigh (λ x. f x + g x) xs ≡ weigh f xs + weigh g xs
  weigh_plus f g [] = refl
  weigh_plus f g (x ∷ xs) = let there = weigh_plus f g xs in omega arith

  pub weigh_among : (h : A → ℕ) (x : A) (xs : List A) → Among x xs → h x ≤ weigh h xs
  weigh_among h x [] m = absurd m
  weigh_among h x (y ∷ ys) (inl e) = let s = ap h e in omega arith
  weigh_among h x (y ∷ ys) (inr m) = let s = weigh_among h x ys m in omega arith

  -- what weighs something has an item that does
  pub among_of_weigh : (h : A → ℕ) (xs : List A) → 0 < weigh h xs → (x : A) × Among x xs × (0 < h x)
  among_of_weigh h [] some = absurd (omega arith)
  among_of_weigh h (x ∷ xs) some = go (λ more. among_of_weigh h xs more) (h x) refl
    where
      go : (0 < weigh h xs → (x' : A) × Among x' xs × (0 < h x')) → (n : ℕ) → h x ≡ n → (x' : A) × Among x' (x ∷ xs) × (0 < h x')
      go rest zero e = let r = rest (omega arith) in (r.0, inr r.1, r.2)
      go rest (suc n) e = (x, inl refl, omega arith)

  pub among_left : (x : A) (xs ys : List A) → Among x xs → Among x (xs ++ ys)
  among_left x [] ys m = absurd m
  among_left x (y ∷ xs) ys (inl e) = inl e
  among_left x (y ∷ xs) ys (inr m) = inr (among_left x xs ys m)

  pub among_right : (x : A) (xs ys : List A) → Among x ys → Among x (xs ++ ys)
  among_right x [] ys m = m
  among_right x (y ∷ xs) ys m = inr (among_right x xs ys m)

  pub among_split : (x : A) (xs ys : List A) → Among x (xs ++ ys) → Among x xs ⊎ Among x ys
  among_split x [] ys m = inr m
  among_split x (y ∷ xs) ys (inl e) = inl (inl e)
  among_split x (y ∷ xs) ys (inr m) = elim (among_split x xs ys m) [ inl l ↦ inl (inr l) | inr r ↦ inr r ]

  pub weigh_same_among : (f g : A → ℕ) (xs : List A) → ((x : A) → Among x xs → f x ≡ g x) → weigh f xs ≡ weigh g xs
  weigh_same_among f g [] each = refl
  weigh_same_among f g (x ∷ xs) each =
      let here = each x (inl refl) in let there = weigh_same_among f g xs (λ y m. each y (inr m)) in omega arith

  pub among_at : (xs : List A) (k : ℕ) (d : A) → k < length xs → Among (get_or xs k d) xs
  among_at [] k d low = absurd (omega arith)
  among_at (x ∷ xs) zero d low = inl refl
  among_at (x ∷ xs) (suc k) d low = inr (among_at xs k d (omega arith))

  -- and the place of an item
  pub place_of : (x : A) (xs : List A) → Among x xs → (k : ℕ) × (k < length xs) × ((d : A) → get_or xs k d ≡ x)
  place_of x [] m = absurd m
  place_of x (y ∷ ys) (inl e) = (0, omega arith, λ d. e)
  place_of x (y ∷ ys) (inr m) = let r = place_of x ys m in (suc r.0, (let l = r.1 in omega arith), r.2)

  pub weigh_at : (h : A → ℕ) (xs : List A) (k : ℕ) (d : A) → h d ≡ 0 → h (get_or xs k d) ≤ weigh h xs
  weigh_at h [] k d e = omega arith
  weigh_at h (x ∷ xs) zero d e = omega arith
  weigh_at h (x ∷ xs) (suc k) d e = let r = weigh_at h xs k d e in omega arith

module _ {A B : Type 0} where
  pub weigh-map : (h : B → ℕ) (f : A → B) (xs : List A) → weigh h (map f xs) ≡ weigh (λ x. h (f x)) xs
  weigh-map h f [] = refl
  weigh-map h f (x ∷ xs) = let there = weigh-map h f xs in omega arith

  pub weigh-flat_map : (h : B → ℕ) (f : A → List B) (xs : List A) → weigh h (flat_map f xs) ≡ weigh (λ x. weigh h (f x)) xs
  weigh-flat_map h f [] = refl
  weigh-flat_map h f (x ∷ xs) = let here = weigh-append h (f x) (flat_map f xs) in let there = weigh-flat_map h f xs in omega arith

  pub among-map : (f : A → B) (x : A) (xs : List A) → Among x xs → Among (f x) (map f xs)
  among-map f x [] m = absurd m
  among-map f x (y ∷ ys) (inl e) = inl (ap f e)
  among-map f x (y ∷ ys) (inr m) = inr (among-map f x ys m)

  pub of_among-map : (f : A → B) (z : B) (xs : List A) → Among z (map f xs) → (x : A) × Among x xs × (f x ≡ z)
  of_among-map f z [] m = absurd m
  of_among-map f z (y ∷ ys) (inl e) = (y, inl refl, e)
  of_among-map f z (y ∷ ys) (inr m) = let r = of_among-map f z ys m in (r.0, inr r.1, r.2)

  pub among-flat_map : (f : A → List B) (z : B) (x : A) (xs : List A) → Among x xs → Among z (f x) → Among z (flat_map f xs)
  among-flat_map f z x [] m here = absurd m
  among-flat_map f z x (y ∷ ys) (inl e) here = among_left z (f y) (flat_map f ys) (subst (λ (w : A). Among z (f w)) (sym e) here)
  among-flat_map f z x (y ∷ ys) (inr m) here = among_right z (f y) (flat_map f ys) (among-flat_map f z x ys m here)

-- sums
pub sum_same : (n : ℕ) (f g : ℕ → ℕ) → ((k : ℕ) → k < n → f k ≡ g k) → sum_below n f ≡ sum_below n g
sum_same zero f g each = refl
sum_same (suc n) f g each =
    let there = sum_same n f g (λ k low. each k (omega arith)) in let here = each n (omega arith) in omega arith

pub sum_append : (m n : ℕ) (f : ℕ → ℕ) → sum_below (m + n) f ≡ sum_below m f + sum_below n (λ k. f (m + k))
sum_append m zero f = let e : m + zero ≡ m = omega arith in ap (λ k. sum_below k f) e ∙ omega arith
sum_append m (suc n) f =
    let e : m + suc n ≡ suc (m + n) = omega arith in
    let there = sum_append m n f in
    ap (λ k. sum_below k f) e ∙ omega arith

pub sum_front : (n : ℕ) (f : ℕ → ℕ) → sum_below (suc n) f ≡ f 0 + sum_below n (λ k. f (suc k))
sum_front zero f = omega arith
sum_front (suc n) f = let there = sum_front n f in omega arith

pub weigh_by_index : {A : Type 0} (h : A → ℕ) (xs : List A) (d : A) → weigh h xs ≡ sum_below (length xs) (λ k. h (get_or xs k d))
weigh_by_index h [] d = refl
weigh_by_index h (x ∷ xs) d =
    let there = weigh_by_index h xs d in
    let e = sum_front (length xs) (λ k. h (get_or (x ∷ xs) k d)) in omega arith

pub sum_at : (n : ℕ) (f : ℕ → ℕ) (k : ℕ) → k < n → f k ≤ sum_below n f
sum_at zero f k low = absurd (omega arith)
sum_at (suc n) f k low =
    elim (eqb_tells k n) [
      | inl (t, e) ↦ let s = ap f e in omega arith
      | inr (t, e) ↦ let s = sum_at n f k (omega arith) in omega arith
    ]

pub sum_some : (n : ℕ) (f : ℕ → ℕ) → 0 < sum_below n f → (k : ℕ) × (k < n) × (0 < f k)
sum_some zero f some = absurd (omega arith)
sum_some (suc n) f some = go (λ more. sum_some n f more) (f n) refl
  where
    go : (0 < sum_below n f → (k : ℕ) × (k < n) × (0 < f k)) → (m : ℕ) → f n ≡ m → (k : ℕ) × (k < suc n) × (0 < f k)
    go rest zero e = let r = rest (omega arith) in (r.0, (let l = r.1 in omega arith), r.2)
    go rest (suc m) e = (n, omega arith, omega arith)

-- the sum of sums is one sum
pub sum_of_sums : (s n : ℕ) (f : ℕ → ℕ) → sum_below s (λ k. sum_below n (λ o. f (k * n + o))) ≡ sum_below (s * n) f
sum_of_sums zero n f = let e : 0 * n ≡ 0 = omega arith in sym (ap (λ (k : ℕ). sum_below k f) e)
sum_of_sums (suc s) n f =
    let there = sum_of_sums s n f in
    let last = sum_append (s * n) n f in
    let e : suc s * n ≡ s * n + n = omega (arith, suc-mul s n) in
    let all : sum_below (suc s * n) f ≡ sum_below (s * n + n) f = ap (λ (k : ℕ). sum_below k f) e in
    omega arith
