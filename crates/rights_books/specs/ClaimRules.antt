-- A rule over the claims of all holders of one book. The rule sees the claims by what they weigh together, for every weight,
-- so it cannot see which holder has a claim, nor in which order.
use Rattle.std.specs.Prelude.{ℕ, ◌+◌, List, [], ◌∷◌}
use Rattle.atomic_table.specs.Table.{State}
use Rattle.atomic_table.specs.Seated.{TableId}
use Rattle.geometry.specs.Weights.{weigh}

-- a holder: its book, and the claims that it has
pub record Held (C : Type 0) : Type 0 where
  pub book : TableId
  pub claims : List C

-- a book: which it is, and what its rule was told
pub record Ruled (K : Type 0) : Type 0 where
  pub book : TableId
  pub key : K

module _ {C : Type 0} where
  -- what the claims of one holder and those of all others weigh together
  abbrev pub together : List C → List C → (C → ℕ) → ℕ
  together mine rest h = weigh h mine + weigh h rest

  -- the claims `mine` may become `after`, whatever the others have, and the step tells `told`
  abbrev pub Follows : (((C → ℕ) → ℕ) → Type 0) → List C → List C → Type 0 → Type 0
  Follows lawful mine after told = (rest : List C) → lawful (together mine rest) → lawful (together after rest) × told

  -- the claims `mine` tell it, whatever the others have
  abbrev pub Tells : (((C → ℕ) → ℕ) → Type 0) → List C → Type 0 → Type 0
  Tells lawful mine told = (rest : List C) → lawful (together mine rest) → told

  -- the view of a seat, which has one
  abbrev pub first_view : List (List C) → List C
  first_view [] = []
  first_view (v ∷ vs) = v

  -- the rule holds of all claims
  abbrev pub Kept : {S : Type 0} → (((C → ℕ) → ℕ) → Type 0) → State S (List C) → Type 0
  Kept lawful s = lawful (λ h. weigh (λ v. weigh h v) s.views)
