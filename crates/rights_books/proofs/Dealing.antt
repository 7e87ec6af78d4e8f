-- The claims still to be dealt are a row in the order of their numbers: so the first of them is the next account's, and
-- what is left is the row from the one behind it.
use Rattle.std.proofs.Common.{◌≡◌, ℕ, zero, suc, ◌+◌, ◌-◌, ◌<◌, ◌≤◌, ◌⊎◌, List, [], ◌∷◌, ◌++◌, length, slice_get, Some, drop, refl, sym, ap, ◌∙◌, arith, inl, inr, ⊎_elim, append-nil}
use Rattle.rights_books.specs.declared.claim.Claim.{Claim}
use Rattle.rights_books.specs.Rules.{each_from}
use Rattle.rights_books.specs.Accounts.{first_of, number_of}

some_same : {A : Type 0} (x y : A) → Some x ≡ Some y → x ≡ y
some_same x y e = cc

pub slice_get_push : {A : Type 0} (xs : List A) (y : A) (k : ℕ) (v : A) → slice_get (xs ++ y ∷ []) k ≡ Some v → (slice_get xs k ≡ Some v) ⊎ ((k ≡ length xs) × (y ≡ v))
slice_get_push [] y zero v e = inr (refl, some_same y v e)
slice_get_push [] y (suc k) v e = inl e
slice_get_push (x ∷ xs) y zero v e = inl e
slice_get_push (x ∷ xs) y (suc k) v e = ⊎_elim (λ t. inl t) (λ t. inr (ap suc t.0, t.1)) (slice_get_push xs y k v e)

-- the first of n - i claims from i + s on
pub each_next : (f : ℕ → Claim) (s n i : ℕ) → i < n → each_from (i + s) (n - i) f ≡ f (i + s) ∷ each_from (i + 1 + s) (n - (i + 1)) f
each_next f s n i lt =
    let a : n - i ≡ suc (n - (i + 1)) = omega arith in
    let b : suc (i + s) ≡ i + 1 + s = omega arith in
    ap (λ (k : ℕ). each_from (i + s) k f) a ∙ ap (λ (k : ℕ). f (i + s) ∷ each_from k (n - (i + 1)) f) b

-- what a dealer has before it gives the next claim
pub next_dealt : (f : ℕ → Claim) (s n i : ℕ) (cs rest : List Claim) → cs ≡ each_from (i + s) (n - i) f ++ rest → i < n
    → cs ≡ f (i + s) ∷ (each_from (i + 1 + s) (n - (i + 1)) f ++ rest)
next_dealt f s n i cs rest is low = is ∙ ap (λ (ds : List Claim). ds ++ rest) (each_next f s n i low)

-- the next claim is of the number that it says
pub next_numbered : (f : ℕ → Claim) → ((k : ℕ) → number_of (f k) ≡ k) → (s n i : ℕ) (cs rest : List Claim) → cs ≡ each_from (i + s) (n - i) f ++ rest → i < n
    → cs ≡ f (number_of (first_of cs)) ∷ drop 1 cs
next_numbered f numbered s n i cs rest is low =
    let e = next_dealt f s n i cs rest is low in
    e ∙ sym (ap (λ (ds : List Claim). f (number_of (first_of ds)) ∷ drop 1 ds) e ∙ ap (λ (k : ℕ). f k ∷ (each_from (i + 1 + s) (n - (i + 1)) f ++ rest)) (numbered (i + s)))

pub each_done : (f : ℕ → Claim) (s n i : ℕ) → n ≤ i → each_from (i + s) (n - i) f ≡ []
each_done f s n i le = let a : n - i ≡ 0 = omega arith in ap (λ (k : ℕ). each_from (i + s) k f) a

pub each_begins : (f : ℕ → Claim) (s n : ℕ) → each_from s n f ≡ each_from (0 + s) (n - 0) f
each_begins f s n =
    let a : s ≡ 0 + s = omega arith in
    let b : n ≡ n - 0 = omega arith in ap (λ (k : ℕ). each_from k n f) a ∙ ap (λ (k : ℕ). each_from (0 + s) k f) b

drop_each : (f : ℕ → Claim) (s n : ℕ) (ys : List Claim) → drop n (each_from s n f ++ ys) ≡ ys
drop_each f s zero ys = refl
drop_each f s (suc n) ys = drop_each f (suc s) n ys

pub each_after : (f : ℕ → Claim) (s n : ℕ) (cs ys : List Claim) → cs ≡ each_from s n f ++ ys → drop n cs ≡ ys
each_after f s n cs ys e = ap (λ (t : List Claim). drop n t) e ∙ drop_each f s n ys

pub each_first : (f : ℕ → Claim) (s n : ℕ) (cs ys : List Claim) → cs ≡ each_from s n f ++ ys → cs ≡ each_from s n f ++ drop n cs
each_first f s n cs ys e = e ∙ ap (λ (t : List Claim). each_from s n f ++ t) (sym (each_after f s n cs ys e))

pub each_alone : (f : ℕ → Claim) (s n : ℕ) (cs : List Claim) → cs ≡ each_from s n f → cs ≡ each_from s n f ++ []
each_alone f s n cs e = e ∙ sym (append-nil (each_from s n f))
