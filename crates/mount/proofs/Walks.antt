-- The next inode's walk joins those before it where it is taken, and nothing joins where it isn't: so what the files up
-- to a number name only grows with it.
use Rattle.std.proofs.Common.{◌≡◌, ℕ, zero, suc, ◌+◌, ◌≤◌, true, false, not, List, [], ◌∷◌, ◌++◌, inl, inr, refl, sym, ap, ◌∙◌, eq-eqb, arith}
use Rattle.std.specs.Prelude.{filter}
use Rattle.std.specs.List.{flat_map}
use Rattle.std.proofs.lemmas.Bool.{cases_lt}
use Rattle.std.proofs.lemmas.List.Elements.{filter-append}
use Rattle.geometry.specs.Weights.{weigh}
use Rattle.geometry.proofs.Weighing.{weigh-append}
use Rattle.geometry.specs.declared.owner.Mark.{Mark}
use Rattle.image.specs.Image.{Image, entry_of}
use Rattle.image.specs.Walk.{walk, is_taken, up_to}

-- the blocks that the files up to an inode name
abbrev pub walks_to : Image → ℕ → List Mark
walks_to image n = flat_map (walk image) (filter (is_taken image) (up_to n))

flat-append : {A : Type 0} (h : Mark → ℕ) (f : A → List Mark) (xs ys : List A) → weigh h (flat_map f (xs ++ ys)) ≡ weigh h (flat_map f xs) + weigh h (flat_map f ys)
flat-append h f [] ys = omega arith
flat-append h f (x ∷ xs) ys =
    let rest = flat-append h f xs ys in
    let one = weigh-append h (f x) (flat_map f (xs ++ ys)) in
    let two = weigh-append h (f x) (flat_map f xs) in
    omega arith

module _ (image : Image) (h : Mark → ℕ) where
  walks_next : (n : ℕ) → weigh h (walks_to image (suc n)) ≡ weigh h (walks_to image n) + weigh h (flat_map (walk image) (filter (is_taken image) (suc n ∷ [])))
  walks_next n =
      ap (λ xs. weigh h (flat_map (walk image) xs)) (filter-append (is_taken image) (up_to n) (suc n ∷ []))
      ∙ flat-append h (walk image) (filter (is_taken image) (up_to n)) (filter (is_taken image) (suc n ∷ []))

  -- the next inode is taken
  pub walks_more : (n : ℕ) → is_taken image (n + 1) ≡ true → weigh h (walks_to image (n + 1)) ≡ weigh h (walks_to image n) + weigh h (walk image (n + 1))
  walks_more n taken =
      let is : n + 1 ≡ suc n = omega arith in
      let t : is_taken image (suc n) ≡ true = ap (is_taken image) (sym is) ∙ taken in
      let one : filter (is_taken image) (suc n ∷ []) ≡ suc n ∷ [] = rw t refl in
      let last : weigh h (flat_map (walk image) (filter (is_taken image) (suc n ∷ []))) ≡ weigh h (walk image (suc n)) + 0 = ap (λ xs. weigh h (flat_map (walk image) xs)) one ∙ weigh-append h (walk image (suc n)) [] in
      let next = walks_next n in
      let from = ap (λ k. weigh h (walks_to image k)) is in
      let its = ap (λ k. weigh h (walk image k)) is in
      omega arith

  -- it is not
  pub walks_same : (n : ℕ) → is_taken image (n + 1) ≡ false → weigh h (walks_to image (n + 1)) ≡ weigh h (walks_to image n)
  walks_same n free =
      let is : n + 1 ≡ suc n = omega arith in
      let t : is_taken image (suc n) ≡ false = ap (is_taken image) (sym is) ∙ free in
      let none : filter (is_taken image) (suc n ∷ []) ≡ [] = rw t refl in
      let last : weigh h (flat_map (walk image) (filter (is_taken image) (suc n ∷ []))) ≡ 0 = ap (λ xs. weigh h (flat_map (walk image) xs)) none in
      let next = walks_next n in
      let from = ap (λ k. weigh h (walks_to image k)) is in
      omega arith

  -- more inodes name no less
  pub walks_most : (n m : ℕ) → n ≤ m → weigh h (walks_to image n) ≤ weigh h (walks_to image m)
  walks_most n zero few = let none : n ≡ 0 = omega arith in let same = ap (λ k. weigh h (walks_to image k)) none in omega arith
  walks_most n (suc m) few = elim (cases_lt m n) [
    | inl all ↦ let last : n ≡ suc m = omega arith in let same = ap (λ k. weigh h (walks_to image k)) last in omega arith
    | inr less ↦ let rest = walks_most n m less in let next = walks_next m in omega arith
  ]

-- a number without an entry is not taken
pub untaken : (image : Image) (n : ℕ) → (entry_of image n).address ≡ 0 → is_taken image n ≡ false
untaken image n none = ap not (eq-eqb (entry_of image n).address 0 none)
