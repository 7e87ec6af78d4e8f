-- Items that weigh nothing weigh nothing together, and a shard lodges at most one ticket for each taken number: so
-- where files have nothing, shards and segments have nothing.
use Rattle.std.proofs.Common.{◌≡◌, ℕ, zero, suc, ◌+◌, ◌<◌, ◌≤◌, ◌==◌, List, [], ◌∷◌, ◌++◌, Option, Some, Bool, true, false, if◌then◌else◌, length, get_or, set, map, refl, sym, ap, subst, ◌∙◌, ⊎_elim, arith}
use Rattle.std.specs.Prelude.{slice_get}
use Rattle.std.specs.Option.{unwrap_or}
use Rattle.std.proofs.lemmas.Option.{slice_get_within, slice_get-get_or}
use Rattle.geometry.specs.Weights.{weigh}
use Rattle.geometry.specs.declared.owner.Mark.{Mark}
use Rattle.rights_books.specs.declared.claim.TakenNumber.{TakenNumber}
use Rattle.rights_books.specs.Weights.{of_entry}
use Rattle.rights_books.proofs.Dealing.{slice_get_push}
use Rattle.nat.specs.Shard.{ShardNodes}

-- what is found in a list stands there
pub stands_at : {A : Type 0} (xs : List A) (k : ℕ) (x : A) → slice_get xs k ≡ Some x → get_or xs k x ≡ x
stands_at xs k x got = ap (λ o. unwrap_or o x) (sym (slice_get-get_or xs k x (slice_get_within xs k x got)) ∙ got)

-- items that weigh nothing weigh nothing together
pub weigh_none : {A : Type 0} (weight : A → ℕ) (xs : List A) → ((k : ℕ) (x : A) → slice_get xs k ≡ Some x → weight x ≡ 0) → weigh weight xs ≡ 0
weigh_none weight [] none = refl
weigh_none weight (x ∷ xs) none =
    let first = none 0 x refl in
    let rest = weigh_none weight xs (λ k y got. none (suc k) y got) in omega arith

weigh_less : {A : Type 0} (few many : A → ℕ) (xs : List A) → ((x : A) → few x ≤ many x) → weigh few xs ≤ weigh many xs
weigh_less few many [] less = omega arith
weigh_less few many (x ∷ xs) less =
    let first = less x in
    let rest = weigh_less few many xs less in omega arith

at_most_one : (b : Bool) → (if b then 0 else 1) ≤ 1
at_most_one true = omega arith
at_most_one false = omega arith

-- the tickets that are lodged in shards are at most their taken numbers
pub lodged_few : (shards : List ShardNodes) → weigh (λ (s : ShardNodes). weigh (of_entry (λ m. 1)) s.taken) shards ≤ weigh (λ (s : ShardNodes). weigh (λ (e : TakenNumber). 1) s.taken) shards
lodged_few shards =
    weigh_less (λ (s : ShardNodes). weigh (of_entry (λ m. 1)) s.taken) (λ (s : ShardNodes). weigh (λ (e : TakenNumber). 1) s.taken) shards
    (λ s. weigh_less (of_entry (λ m. 1)) (λ (e : TakenNumber). 1) s.taken (λ e. at_most_one (e.address == 0)))

-- one more item at the end
pub each_got : {A : Type 0} (P : ℕ → A → Type 0) (xs : List A) (x : A) → ((k : ℕ) (v : A) → slice_get xs k ≡ Some v → P k v) → P (length xs) x
    → (k : ℕ) (v : A) → slice_get (xs ++ x ∷ []) k ≡ Some v → P k v
each_got P xs x each here k v got = ⊎_elim (λ t. each k v t) (λ t. subst (P k) t.1 (subst (λ n. P n x) (sym t.0) here)) (slice_get_push xs x k v got)

-- one of the items is another
pub each_reset : {A : Type 0} (P : ℕ → A → Type 0) (xs : List A) (i : ℕ) (x : A) → ((k : ℕ) (v : A) → slice_get xs k ≡ Some v → P k v) → P i x
    → (k : ℕ) (v : A) → slice_get (set xs i x) k ≡ Some v → P k v
each_reset P [] i x each here k v got = each k v got
each_reset P (y ∷ xs) zero x each here zero v got = let same : x ≡ v = cc in subst (P zero) same here
each_reset P (y ∷ xs) zero x each here (suc k) v got = each (suc k) v got
each_reset P (y ∷ xs) (suc i) x each here zero v got = each zero v got
each_reset P (y ∷ xs) (suc i) x each here (suc k) v got = each_reset (λ n. P (suc n)) xs i x (λ n w there. each (suc n) w there) here k v got
