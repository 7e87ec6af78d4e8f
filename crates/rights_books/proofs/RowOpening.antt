-- At first each part and its twin are there once, both blank; and the claims still to be dealt are those of the parts from
-- the next number on.
use Rattle.std.proofs.Common.{◌≡◌, ℕ, zero, suc, ◌+◌, ◌-◌, ◌<◌, ◌≤◌, ◌==◌, Bool, true, false, ◌⊎◌, List, [], ◌∷◌, ◌++◌, length, slice_get, Some, drop, if◌then◌else◌, refl, sym, ap, ◌∙◌, subst, arith, inl, inr, ⊎_elim, eqb-true, length-append}
use Rattle.geometry.specs.Weights.{weigh}
use Rattle.rights_books.specs.declared.row_claim.Row.{Row}
use Rattle.rights_books.specs.declared.row_claim.RowClaim.{RowClaim}
use Rattle.rights_books.specs.declared.row_claim.RowClaim.TheVariants.{Part, Kept}
use Rattle.rights_books.specs.RowWeights.{part_in, kept_in}
use Rattle.rights_books.specs.RowRules.{Lawful, at, blank, pairs_from, opening}
use Rattle.atomic_table.specs.Seated.{TableId}
use Rattle.rights_books.specs.RowAccounts.{RowView, AreBlank, first_of, number_of}
use Rattle.rights_books.proofs.Dealing.{slice_get_push}

same_pairs : (h : ℕ → Row → ℕ) (s n : ℕ) → weigh (part_in h) (pairs_from s n) ≡ weigh (kept_in h) (pairs_from s n)
same_pairs h s zero = refl
same_pairs h s (suc n) = let there = same_pairs h (suc s) n in omega arith

none_behind : (k s n : ℕ) → k < s → weigh (part_in (at k)) (pairs_from s n) ≡ 0
none_behind k s zero lt = refl
none_behind k s (suc n) lt = go (s == k) refl (none_behind k (suc s) n (omega arith))
  where
    go : (b : Bool) → (s == k) ≡ b → weigh (part_in (at k)) (pairs_from (suc s) n) ≡ 0 → (if b then 1 else 0) + (0 + weigh (part_in (at k)) (pairs_from (suc s) n)) ≡ 0
    go true e there = let same = eqb-true s k e in absurd (omega arith)
    go false e there = omega arith

one_each : (k s n : ℕ) → weigh (part_in (at k)) (pairs_from s n) ≤ 1
one_each k s zero = omega arith
one_each k s (suc n) = go (s == k) refl (one_each k (suc s) n)
  where
    go : (b : Bool) → (s == k) ≡ b → weigh (part_in (at k)) (pairs_from (suc s) n) ≤ 1 → (if b then 1 else 0) + (0 + weigh (part_in (at k)) (pairs_from (suc s) n)) ≤ 1
    go true e there = let same = eqb-true s k e in let none = none_behind k (suc s) n (omega arith) in omega arith
    go false e there = omega arith

pub opens : (n : ℕ) → Lawful (λ h. weigh h (opening n))
opens n = record { twins = λ h. same_pairs h 0 n; alone = λ k. one_each k 0 n }

-- the first of n - i pairs from part i on
pub next_pair : (n i : ℕ) (cs : List RowClaim) → cs ≡ pairs_from i (n - i) → i < n → cs ≡ Part i blank ∷ Kept i blank ∷ pairs_from (i + 1) (n - (i + 1))
next_pair n i cs is lt =
    let a : n - i ≡ suc (n - (i + 1)) = omega arith in
    let b : suc i ≡ i + 1 = omega arith in
    is ∙ (ap (λ (k : ℕ). pairs_from i k) a ∙ ap (λ (k : ℕ). Part i blank ∷ Kept i blank ∷ pairs_from k (n - (i + 1))) b)

-- it is of the number that it says
pub next_numbered : (n i : ℕ) (cs : List RowClaim) → cs ≡ pairs_from i (n - i) → i < n → cs ≡ Part (number_of (first_of cs)) blank ∷ Kept (number_of (first_of cs)) blank ∷ drop 2 cs
next_numbered n i cs is lt =
    let e = next_pair n i cs is lt in
    e ∙ sym (ap (λ (ds : List RowClaim). Part (number_of (first_of ds)) blank ∷ Kept (number_of (first_of ds)) blank ∷ drop 2 ds) e)

-- the accounts that are dealt, and one more
pub none_blank : (book : TableId) (accounts : List RowView) → accounts ≡ [] → AreBlank book accounts
none_blank book accounts none k v e = let z : slice_get [] k ≡ Some v = subst (λ (l : List RowView). slice_get l k ≡ Some v) none e in absurd (cc)

pub blank_at : (book : TableId) {m n : ℕ} → m ≡ n → ◌≡◌ {A = RowView} (record { book = book; number = m; row = blank }) (record { book = book; number = n; row = blank })
blank_at book e i = record { book = book; number = e i; row = blank }

pub one_more : (accounts more : List RowView) (v : RowView) (n : ℕ) → more ≡ accounts ++ v ∷ [] → length accounts ≡ n → length more ≡ n + 1
one_more accounts more v n pushed count = let a = ap (λ (l : List RowView). length l) pushed in let b = length-append accounts (v ∷ []) in omega arith

pub blank_next : (book : TableId) (accounts more : List RowView) (v : RowView) → AreBlank book accounts → more ≡ accounts ++ v ∷ []
    → v ≡ record { book = book; number = length accounts; row = blank } → AreBlank book more
blank_next book accounts more v blanks pushed here k w e =
    ⊎_elim (λ (old : slice_get accounts k ≡ Some w). blanks k w old)
    (λ (new : (k ≡ length accounts) × (v ≡ w)). sym new.1 ∙ (here ∙ blank_at book (sym new.0)))
    (slice_get_push accounts v k w (subst (λ (l : List RowView). slice_get l k ≡ Some w) pushed e))
