-- One item that is set changes what stands at its place alone: so what holds of the others stays, and the count of
-- valid blocks goes up or down by one.
use Rattle.std.proofs.Common.{◌≡◌, ℕ, zero, suc, ◌+◌, ◌<◌, ◌≤◌, List, [], ◌∷◌, ◌++◌, Option, Some, None, Bool, true, map, length, get_or, set, replicate, refl, sym, ap, ◌∙◌, subst, arith}
use Rattle.std.specs.Prelude.{is_some, unwrap_or}
use Rattle.std.proofs.lemmas.List.{length-map, get_or-set_same, get_or-set_other}
use mathlib.Core.Logic.{dite}
use native.Mathlib.Decide.{ℕ_discrete}
use Rattle.geometry.proofs.Weighing.{weigh-set}
use Rattle.geometry.specs.declared.owner.Owner.{Owner}
use Rattle.sit.specs.Summaries.{is_set, is_clear, one, count_of}

module _ {A : Type 0} where
  pub get_or-default : (xs : List A) (i : ℕ) (d e : A) → i < length xs → get_or xs i d ≡ get_or xs i e
  get_or-default [] i d e within = absurd (omega arith)
  get_or-default (x ∷ xs) zero d e within = refl
  get_or-default (x ∷ xs) (suc i) d e within = get_or-default xs i d e (omega arith)

  pub each-set : (P : ℕ → A → Type 0) (xs : List (Option A)) (i : ℕ) (x : Option A) → i < length xs
      → ((o : ℕ) (a : A) → get_or xs o None ≡ Some a → P o a) → ((a : A) → x ≡ Some a → P i a)
      → (o : ℕ) (a : A) → get_or (set xs i x) o None ≡ Some a → P o a
  each-set P xs i x within each here o a e = dite (ℕ_discrete o i)
      (λ h. subst (λ z. P z a) (sym h) (here a (sym (get_or-set_same xs i x None within) ∙ (ap (λ z. get_or (set xs i x) z None) (sym h) ∙ e))))
      (λ h. each o a (sym (get_or-set_other xs i o x None h) ∙ e))

-- what holds of each item stays so where one goes
pub each-without : {A : Type 0} (P : ℕ → A → Type 0) (xs : List (Option A)) (i : ℕ) (x : Option A) → x ≡ None → i < length xs
    → ((o : ℕ) (a : A) → get_or xs o None ≡ Some a → P o a) → (o : ℕ) (a : A) → get_or (set xs i x) o None ≡ Some a → P o a
each-without P xs i x none within each = each-set P xs i x within each (λ a e. absurd (let no : Some a ≡ None = sym e ∙ none in cc))

-- a place of a list is one of the list that tells which of its items are there
pub within_present : {A : Type 0} (xs : List (Option A)) (present : List Bool) (i : ℕ) → map is_some xs ≡ present → i < length present → i < length xs
within_present xs present i is within = let l = ap (λ (bs : List Bool). length bs) is in let m = length-map xs is_some in omega arith

pub count-set : (ss : List (Option Owner)) (i : ℕ) (w : Owner) → i < length ss → get_or ss i None ≡ None → count_of (set ss i (Some w)) ≡ count_of ss + 1
count-set ss i w within clear = let e = weigh-set one ss i (Some w) None within in let z = ap one clear in omega arith

one_is : (s : Option Owner) → is_set s ≡ true → one s ≡ 1
one_is (Some w) e = refl
one_is None e = absurd (let no = e in cc)

pub count-clear : (ss : List (Option Owner)) (i : ℕ) → i < length ss → is_set (get_or ss i None) ≡ true → count_of (set ss i None) + 1 ≡ count_of ss
count-clear ss i within valid = let e = weigh-set one ss i None None within in let z = one_is (get_or ss i None) valid in omega arith

one_most : (s : Option Owner) → one s ≤ 1
one_most (Some w) = omega arith
one_most None = omega arith

pub count_most : (ss : List (Option Owner)) → count_of ss ≤ length ss
count_most [] = omega arith
count_most (s ∷ ss) = let a = one_most s in let r = count_most ss in omega arith

pub count_none : (n : ℕ) → count_of (replicate n None) ≡ 0
count_none zero = refl
count_none (suc n) = let r = count_none n in omega arith

pub map_replicate : {A B : Type 0} (f : A → B) (n : ℕ) (a : A) → map f (replicate n a) ≡ replicate n (f a)
map_replicate f zero a = refl
map_replicate f (suc n) a = ap (λ r. f a ∷ r) (map_replicate f n a)

-- where nothing is counted, no block is valid
pub none_valid : (ss : List (Option Owner)) → count_of ss ≡ 0 → (o : ℕ) → get_or ss o None ≡ None
none_valid [] e o = refl
none_valid (Some w ∷ ss) e o = absurd (omega arith)
none_valid (None ∷ ss) e zero = refl
none_valid (None ∷ ss) e (suc o) = none_valid ss (omega arith) o

-- an item that was changed, and set back
pub set-back : {A : Type 0} (xs : List A) (i : ℕ) (x y d : A) → get_or xs i d ≡ y → set (set xs i x) i y ≡ xs
set-back [] i x y d e = refl
set-back (a ∷ xs) zero x y d e = ap (λ z. z ∷ xs) (sym e)
set-back (a ∷ xs) (suc i) x y d e = ap (λ z. a ∷ z) (set-back xs i x y d e)

pub some-injective : {A : Type 0} (x y : A) → Some x ≡ Some y → x ≡ y
some-injective {A} x y e = ap (λ (o : Option A). unwrap_or o x) e

pub some-ne-none : {A : Type 0} (x : A) → Some x ≡ None → ⊥
some-ne-none {A} x e = let no = ap (λ (o : Option A). is_some o) e in cc

-- where no block from `next` on is valid, none is after one was cleared
pub clear_past : (ss : List (Option Owner)) (o next : ℕ) → o < length ss → ((p : ℕ) → next ≤ p → get_or ss p None ≡ None) → (p : ℕ) → next ≤ p → get_or (set ss o None) p None ≡ None
clear_past ss o next within each p le = dite (ℕ_discrete p o)
    (λ h. ap (λ z. get_or (set ss o None) z None) h ∙ get_or-set_same ss o None None within)
    (λ h. get_or-set_other ss o p None None h ∙ each p le)

-- nor is one past a place that was set
pub set_past : (ss : List (Option Owner)) (next : ℕ) (w : Owner) → ((p : ℕ) → next ≤ p → get_or ss p None ≡ None) → (p : ℕ) → next + 1 ≤ p → get_or (set ss next (Some w)) p None ≡ None
set_past ss next w each p le = get_or-set_other ss next p (Some w) None (λ h. let e = h in absurd (omega arith)) ∙ each p (omega arith)

pub each-push : {A : Type 0} (P : ℕ → A → Type 0) (xs : List (Option A)) (b : A) → ((o : ℕ) (a : A) → get_or xs o None ≡ Some a → P o a) → P (length xs) b
    → (o : ℕ) (a : A) → get_or (xs ++ Some b ∷ []) o None ≡ Some a → P o a
each-push P [] b each last zero a e = subst (P 0) (some-injective b a e) last
each-push P [] b each last (suc o) a e = absurd (some-ne-none a (sym e))
each-push P (x ∷ xs) b each last zero a e = each 0 a e
each-push P (x ∷ xs) b each last (suc o) a e = each-push (λ z. P (suc z)) xs b (λ z. each (suc z)) last o a e

-- where nothing is counted, every block is clear
pub all_clear : (ss : List (Option Owner)) → count_of ss ≡ 0 → map is_clear ss ≡ replicate (length ss) true
all_clear [] none = refl
all_clear (Some w ∷ ss) none = absurd (omega arith)
all_clear (None ∷ ss) none = ap (λ r. true ∷ r) (all_clear ss (omega arith))
