-- The law of one queue of slips. A slip is seen here by the number of its segment.
use Rattle.std.specs.Prelude.{◌≡◌, ℕ, ◌+◌, ◌≤◌, List, [], ◌∷◌, ◌++◌, length}
use mathlib.Core.Option.{some}
use lib.ListN.{get_elem?}
use Rattle.geometry.specs.Weights.{weigh, SameItems}
use Rattle.pool.specs.declared.law.SlipTally.{SlipTally}
use Rattle.pool.specs.declared.law.Account.{Account}

-- one for each of the six logs (Lee and others, "F2FS: A New File System for Flash Storage", FAST 2015), and one for the
-- checkpoint packs
abbrev pub all_parts : ℕ
all_parts = 7

abbrev pub tally : ℕ → List ℕ → List ℕ → SlipTally
tally parts put taken = record { parts = parts; put = put; taken = taken }

abbrev pub idle : SlipTally
idle = tally 0 [] []

-- a tally with no part has put and taken nothing
abbrev pub IdleIsEmpty : List SlipTally → Type 0
IdleIsEmpty views = (port : ℕ) (v : SlipTally) → get_elem? views port ≡ some v → v.parts ≡ 0 → (v.put ≡ []) × (v.taken ≡ [])

-- What all passes have put is what they have taken and what the queue holds, each slip as often. Together they have seven
-- parts.
pub record SlipLaw (items : List ℕ) (views : List SlipTally) : Type 0 where
  pub whole : weigh (λ v. v.parts) views ≡ all_parts
  pub balance : (h : ℕ → ℕ) → weigh (λ v. weigh h v.put) views ≡ weigh (λ v. weigh h v.taken) views + weigh h items
  pub rest_idle : IdleIsEmpty views

-- what was put is what was taken and what the queue holds, each slip as often
pub record Settled (v : SlipTally) (items : List ℕ) : Type 0 where
  pub same : SameItems v.put (v.taken ++ items)

abbrev pub with_put : SlipTally → ℕ → SlipTally
with_put v x = tally v.parts (v.put ++ x ∷ []) v.taken

abbrev pub with_taken : SlipTally → ℕ → SlipTally
with_taken v x = tally v.parts v.put (v.taken ++ x ∷ [])

abbrev pub both : SlipTally → SlipTally → SlipTally
both v w = tally (v.parts + w.parts) (v.put ++ w.put) (v.taken ++ w.taken)

abbrev pub account : SlipTally → SlipTally → Account
account ordinary reserve = record { ordinary = ordinary; reserve = reserve }

-- what a call does to a pass
abbrev pub put_ordinary : Account → ℕ → Account
put_ordinary a x = account (with_put a.ordinary x) a.reserve

abbrev pub put_reserve : Account → ℕ → Account
put_reserve a x = account a.ordinary (with_put a.reserve x)

abbrev pub took_ordinary : Account → ℕ → Account
took_ordinary a x = account (with_taken a.ordinary x) a.reserve

abbrev pub took_reserve : Account → ℕ → Account
took_reserve a x = account a.ordinary (with_taken a.reserve x)

-- What a pass can know of a moment. A pass with all parts knows the queue by what it has put and taken; another knows
-- nothing of it.
abbrev pub Moment : SlipTally → List ℕ → Type 0
Moment v items = all_parts ≤ v.parts → Settled v items

-- at one moment of the call the queue was empty
abbrev pub WasEmpty : SlipTally → Type 0
WasEmpty v = Moment v []

-- at one moment of the call it held as many as it may
abbrev pub WasFull : ℕ → SlipTally → Type 0
WasFull capacity v = (items : List ℕ) × (length items ≡ capacity) × Moment v items

-- `all` lists, at the queue that `pick` picks, what `first` and the others list together, each slip as often
pub record HasAll (pick : Account → SlipTally) (first : Account) (others : List Account) (all : Account) : Type 0 where
  pub parts : (pick all).parts ≡ (pick first).parts + weigh (λ a. (pick a).parts) others
  pub put : (h : ℕ → ℕ) → weigh h (pick all).put ≡ weigh h (pick first).put + weigh (λ a. weigh h (pick a).put) others
  pub taken : (h : ℕ → ℕ) → weigh h (pick all).taken ≡ weigh h (pick first).taken + weigh (λ a. weigh h (pick a).taken) others
