-- Each pass that is joined brings its parts and its lists along: so what all joined ones and the rest list together
-- stays the same, until none is left.
use Rattle.std.proofs.Common.{◌≡◌, ℕ, ◌+◌, List, [], ◌∷◌, ◌++◌, ap, ◌∙◌, arith}
use Rattle.geometry.specs.Weights.{weigh}
use Rattle.geometry.proofs.Weighing.{weigh-append}
use Rattle.pool.specs.declared.law.SlipTally.{SlipTally}
use Rattle.pool.specs.declared.law.Account.{Account}
use Rattle.pool.specs.Law.{both, HasAll}
use Rattle.pool.specs.Pools.{joined_account}

-- `all` and the rest list what `first` and the others do
pub record Collects (pick : Account → SlipTally) (first : Account) (others : List Account) (all : Account) (rest : List Account) : Type 0 where
  pub parts : (pick all).parts + weigh (λ a. (pick a).parts) rest ≡ (pick first).parts + weigh (λ a. (pick a).parts) others
  pub put : (h : ℕ → ℕ) → weigh h (pick all).put + weigh (λ a. weigh h (pick a).put) rest ≡ weigh h (pick first).put + weigh (λ a. weigh h (pick a).put) others
  pub taken : (h : ℕ → ℕ) → weigh h (pick all).taken + weigh (λ a. weigh h (pick a).taken) rest ≡ weigh h (pick first).taken + weigh (λ a. weigh h (pick a).taken) others

module _ (pick : Account → SlipTally) (first : Account) (others : List Account) where
  pub collects_none : Collects pick first others first others
  collects_none = record { parts = omega arith; put = λ h. omega arith; taken = λ h. omega arith }

  pub collected : (all : Account) → Collects pick first others all [] → HasAll pick first others all
  collected all c = record {
    parts = let e = c.parts in omega (arith, e);
    put = λ h. (let e = c.put h in omega (arith, e));
    taken = λ h. (let e = c.taken h in omega (arith, e));
  }

  -- the last of the rest is put to it
  pub collects_next : ((a b : Account) → pick (joined_account a b) ≡ both (pick a) (pick b)) → (all other next : Account) (left rest : List Account) → next ≡ joined_account all other → left ≡ rest ++ other ∷ [] → Collects pick first others all left → Collects pick first others next rest
  collects_next picks all other next left rest joined is c =
      let with = ap pick joined ∙ picks all other in record {
        parts =
            let e = c.parts in
            let p = ap (λ t. t.parts) with in
            let l = ap (λ xs. weigh (λ a. (pick a).parts) xs) is in
            let s = weigh-append (λ a. (pick a).parts) rest (other ∷ []) in
            omega (arith, e, p, l, s);
        put = λ h.
            (let e = c.put h in
            let p = ap (λ t. weigh h t.put) with in
            let t = weigh-append h (pick all).put (pick other).put in
            let l = ap (λ xs. weigh (λ a. weigh h (pick a).put) xs) is in
            let s = weigh-append (λ a. weigh h (pick a).put) rest (other ∷ []) in
            omega (arith, e, p, t, l, s));
        taken = λ h.
            (let e = c.taken h in
            let p = ap (λ t. weigh h t.taken) with in
            let t = weigh-append h (pick all).taken (pick other).taken in
            let l = ap (λ xs. weigh (λ a. weigh h (pick a).taken) xs) is in
            let s = weigh-append (λ a. weigh h (pick a).taken) rest (other ∷ []) in
            omega (arith, e, p, t, l, s));
      }
