-- Items are added to both lists together, one related pair more each time: so what was gone through is related place by
-- place, and when nothing is left the whole lists are.
use Rattle.std.proofs.Common.{◌≡◌, ◌∙◌, ◌<◌, ℕ, suc, List, [], ◌∷◌, ◌++◌, append-nil, append_assoc, ap, arith, get_or, length, map, refl, subst, sym}
use Rattle.std.specs.List.{AllZip}
use Rattle.std.proofs.lemmas.List.{map-append}

module _ {X Y : Type 0} (R : X → Y → Type 0) where
  one_more : (xs : List X) (ys : List Y) (x : X) (y : Y) → AllZip R xs ys → R x y → AllZip R (xs ++ x ∷ []) (ys ++ y ∷ [])
  one_more [] [] x y zip one = (one, tt)
  one_more [] (other ∷ ys) x y zip one = absurd zip
  one_more (first ∷ xs) [] x y zip one = absurd zip
  one_more (first ∷ xs) (other ∷ ys) x y zip one = (zip.0, one_more xs ys x y zip.1 one)

  -- the front is related, and the rest is still to come
  pub record ZippedSo (xs : List X) (ys : List Y) (rest : List X) : Type 0 where
    pub front : List X
    pub are : xs ≡ front ++ rest
    pub zipped : AllZip R front ys

  pub none_zipped : (xs : List X) → ZippedSo xs [] xs
  none_zipped xs = record { front = []; are = refl; zipped = tt }

  pub next_zipped : (xs : List X) (ys : List Y) (rest new : List X) (x : X) (y : Y) → rest ≡ x ∷ new → ZippedSo xs ys rest → R x y → ZippedSo xs (ys ++ y ∷ []) new
  next_zipped xs ys rest new x y next so_far one = record {
    front = so_far.front ++ x ∷ [];
    are = so_far.are ∙ ap (λ zs. so_far.front ++ zs) next ∙ sym (append_assoc so_far.front (x ∷ []) new);
    zipped = one_more so_far.front ys x y so_far.zipped one;
  }

  pub all_zipped : (xs : List X) (ys : List Y) (rest : List X) → rest ≡ [] → ZippedSo xs ys rest → AllZip R xs ys
  all_zipped xs ys rest none so_far =
      subst (λ zs. AllZip R zs ys) (sym (so_far.are ∙ ap (λ zs. so_far.front ++ zs) none ∙ append-nil so_far.front)) so_far.zipped

module _ {A B X Y : Type 0} (R : X → Y → Type 0) (one : A → X) (other : B → Y) where
  -- the same of what two lists are mapped to
  pub none_mapped : (items : List A) (all : List B) (rest : List A) → all ≡ [] → rest ≡ items → ZippedSo R (map one items) (map other all) (map one rest)
  none_mapped items all rest none same =
      subst (λ ys. ZippedSo R (map one items) (map other ys) (map one rest)) (sym none) (subst (λ zs. ZippedSo R (map one items) [] (map one zs)) (sym same) (none_zipped R (map one items)))

  pub next_mapped : (items : List A) (all grown : List B) (rest new : List A) (a : A) (b : B) → grown ≡ all ++ b ∷ [] → rest ≡ a ∷ new
      → ZippedSo R (map one items) (map other all) (map one rest) → R (one a) (other b) → ZippedSo R (map one items) (map other grown) (map one new)
  next_mapped items all grown rest new a b is next so_far related =
      subst (λ ys. ZippedSo R (map one items) ys (map one new)) (sym (ap (map other) is ∙ map-append other all (b ∷ [])))
      (next_zipped R (map one items) (map other all) (map one rest) (map one new) (one a) (other b) (ap (map one) next) so_far related)

  pub all_mapped : (items : List A) (all : List B) (rest : List A) → rest ≡ [] → ZippedSo R (map one items) (map other all) (map one rest) → AllZip R (map one items) (map other all)
  all_mapped items all rest none so_far = all_zipped R (map one items) (map other all) (map one rest) (ap (map one) none) so_far
