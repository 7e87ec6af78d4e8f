-- An item counts 1 by its own weight, so it stands in a list as often as the list weighs by it, and once less without
-- it; and lists of as many items that weigh no more weigh the same.
use Rattle.std.proofs.Common.{◌≡◌, ℕ, zero, suc, ◌+◌, ◌<◌, ◌≤◌, ◌-◌, ◌*◌, ◌==◌, suc-mul, Bool, true, false, List, [], ◌∷◌, if◌then◌else◌, refl, sym, ap, ◌∙◌, arith, eqb-true, eq-eqb}
use Rattle.geometry.specs.Weights.{weigh}
use Rattle.rights_books.specs.Lists.{times, without, sum_below}

-- 1 for x, and 0 for all else
abbrev pub is : {A : Type 0} → (A → A → Bool) → A → A → ℕ
is same x y = if same x y then 1 else 0

module _ {A : Type 0} where
  -- where all items weigh 0 by one weight, or by two, they do by a third that follows
  pub weigh_none : (f g : A → ℕ) → ((x : A) → f x ≡ 0 → g x ≡ 0) → (xs : List A) → weigh f xs ≡ 0 → weigh g xs ≡ 0
  weigh_none f g each [] e = refl
  weigh_none f g each (x ∷ xs) e =
      let here = each x (omega arith) in let there = weigh_none f g each xs (omega arith) in omega arith

  pub weigh_none_two : (f f' g : A → ℕ) → ((x : A) → f x ≡ 0 → f' x ≡ 0 → g x ≡ 0) → (xs : List A) → weigh f xs ≡ 0 → weigh f' xs ≡ 0 → weigh g xs ≡ 0
  weigh_none_two f f' g each [] e e' = refl
  weigh_none_two f f' g each (x ∷ xs) e e' =
      let here = each x (omega arith) (omega arith) in let there = weigh_none_two f f' g each xs (omega arith) (omega arith) in omega arith

  -- as few as n of one weight leave out all that has n of it
  pub weigh_few : (f g : A → ℕ) (n : ℕ) → ((x : A) → f x < n → g x ≡ 0) → (xs : List A) → weigh f xs < n → weigh g xs ≡ 0
  weigh_few f g n each [] few = refl
  weigh_few f g n each (x ∷ xs) few =
      let here = each x (omega arith) in let there = weigh_few f g n each xs (omega arith) in omega arith

  -- where all items weigh 0 by one weight, two weights that agree on such items are the same
  pub weigh_same_where : (f g g' : A → ℕ) → ((x : A) → f x ≡ 0 → g x ≡ g' x) → (xs : List A) → weigh f xs ≡ 0 → weigh g xs ≡ weigh g' xs
  weigh_same_where f g g' each [] z = refl
  weigh_same_where f g g' each (x ∷ xs) z =
      let here = each x (omega arith) in let there = weigh_same_where f g g' each xs (omega arith) in omega arith

  pub weigh_le : (f g : A → ℕ) → ((x : A) → f x ≤ g x) → (xs : List A) → weigh f xs ≤ weigh g xs
  weigh_le f g each [] = omega arith
  weigh_le f g each (x ∷ xs) = let here = each x in let there = weigh_le f g each xs in omega arith

  weigh_topped : (n : ℕ) (h : A → ℕ) (ys : List A) → weigh h ys ≤ n → weigh (λ a. (n - h a) + h a) ys ≡ weigh (λ a. n) ys
  weigh_topped n h [] le = refl
  weigh_topped n h (y ∷ ys) le = let there = weigh_topped n h ys (omega arith) in omega arith

  weigh_over : (n : ℕ) (h : A → ℕ) (xs : List A) → weigh (λ a. n) xs ≤ weigh (λ a. (n - h a) + h a) xs
  weigh_over n h [] = omega arith
  weigh_over n h (x ∷ xs) = let there = weigh_over n h xs in omega arith

  weigh_const : (n : ℕ) (xs : List A) → weigh (λ a. n) xs ≡ weigh (λ a. 1) xs * n
  weigh_const n [] = omega arith
  weigh_const n (x ∷ xs) = let there = weigh_const n xs in let k : ℕ = weigh (λ a. 1) xs in omega (arith, suc-mul k n)

  pub weigh_plus : (f g : A → ℕ) (xs : List A) → weigh (λ x. f x + g x) xs ≡ weigh f xs + weigh g xs
  weigh_plus f g [] = refl
  weigh_plus f g (x ∷ xs) = let there = weigh_plus f g xs in omega arith

  module _ (same : A → A → Bool) (sound : (x y : A) → same x y ≡ true → x ≡ y) (whole : (x : A) → same x x ≡ true) where
    pub is_self : (x : A) → is same x x ≡ 1
    is_self x = rw (whole x) refl

    pub is_other : (x y : A) → (x ≡ y → ⊥) → is same x y ≡ 0
    is_other x y apart = go (same x y) refl
      where
        go : (b : Bool) → same x y ≡ b → ◌≡◌ {A = ℕ} (if b then 1 else 0) 0
        go true e = absurd (apart (sound x y e))
        go false e = refl

    pub times_head : (x : A) (xs : List A) → times same x (x ∷ xs) ≡ 1 + times same x xs
    times_head x xs = let s = is_self x in omega arith

    pub without_head : (x : A) (xs : List A) → without same x (x ∷ xs) ≡ xs
    without_head x xs = rw (whole x) refl

    -- where x stands in the list, it and the list without it weigh what the list does
    pub weigh-without : (h : A → ℕ) (x : A) (xs : List A) → 0 < times same x xs → h x + weigh h (without same x xs) ≡ weigh h xs
    weigh-without h x [] some = absurd (omega arith)
    weigh-without h x (y ∷ ys) some = go (weigh-without h x ys) (same x y) refl some
      where
        go : (0 < times same x ys → h x + weigh h (without same x ys) ≡ weigh h ys) → (b : Bool) → same x y ≡ b → 0 < (if b then 1 else 0) + times same x ys
            → h x + weigh h (if b then ys else y ∷ without same x ys) ≡ h y + weigh h ys
        go there true e some' = let s = ap h (sound x y e) in omega arith
        go there false e some' = let s = there (omega arith) in omega arith

-- a list that weighs at most what another does, by every weight, and has as many items, weighs the same
module _ {A : Type 0} where
  pub as_many : (xs ys : List A) → ((h : A → ℕ) → weigh h xs ≤ weigh h ys) → weigh (λ a. 1) xs ≡ weigh (λ a. 1) ys → (h : A → ℕ) → weigh h xs ≡ weigh h ys
  as_many xs ys below count h =
      let n : ℕ = weigh h ys in
      let a = weigh_topped n h ys (omega arith) in
      let b = weigh_over n h xs in
      let c = weigh_plus (λ x. n - h x) h xs in
      let d = weigh_plus (λ x. n - h x) h ys in
      let e = below (λ x. n - h x) in
      let f = below h in
      let g : weigh (λ x. n) xs ≡ weigh (λ x. n) ys = weigh_const n xs ∙ (ap (λ (k : ℕ). k * n) count ∙ sym (weigh_const n ys)) in omega arith

-- at most one number below n is s, and none where s is not below n
pub none_past : (n s : ℕ) → n ≤ s → sum_below n (λ j. is (λ a b. b == a) s j) ≡ 0
none_past zero s le = refl
none_past (suc n) s le =
    let here = is_other (λ a b. b == a) (λ a b e. sym (eqb-true b a e)) (λ a. eq-eqb a a refl) s n (λ e. omega arith) in
    let there = none_past n s (omega arith) in omega arith

pub one_below : (n s : ℕ) → sum_below n (λ j. is (λ a b. b == a) s j) ≤ 1
one_below zero s = omega arith
one_below (suc n) s = go (one_below n s) (n == s) refl
  where
    go : sum_below n (λ j. is (λ a b. b == a) s j) ≤ 1 → (b : Bool) → (n == s) ≡ b → sum_below n (λ j. is (λ a b. b == a) s j) + (if b then 1 else 0) ≤ 1
    go there true e = let none = none_past n s (omega (arith, eqb-true n s e)) in omega arith
    go there false e = omega arith

pub sum_below_suc : (n : ℕ) (h : ℕ → ℕ) → sum_below n (λ i. h (suc i)) + h 0 ≡ sum_below (suc n) h
sum_below_suc zero h = omega arith
sum_below_suc (suc n) h = let there = sum_below_suc n h in omega arith

pub sum_below_ones : (n : ℕ) → sum_below n (λ i. 1) ≡ n
sum_below_ones zero = refl
sum_below_ones (suc n) = let there = sum_below_ones n in omega arith
