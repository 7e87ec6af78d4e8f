-- What a list of numbers names, place by place.
use Rattle.std.proofs.Common.{◌≡◌, ℕ, zero, suc, ◌+◌, ◌<◌, ◌≤◌, List, [], ◌∷◌, length, get_or, take, inl, inr, ap, ◌∙◌, refl, sym, arith}
use Rattle.std.proofs.lemmas.Bool.{cases_lt}
use Rattle.std.proofs.lemmas.List.{get_or_past, get_or-take, length-take}
use Rattle.mount_blocks.specs.Loaded.{weigh_from}

module _ (f : ℕ → ℕ → ℕ) where
  from_next : (slot : ℕ) (ns : List ℕ) (k at : ℕ) → at ≡ slot + k → k < length ns → weigh_from f slot (take (suc k) ns) ≡ weigh_from f slot (take k ns) + f at (get_or ns k 0)
  from_next slot [] k at e within = absurd (omega arith)
  from_next slot (n ∷ ns) zero at e within = let here : at ≡ slot = omega arith in let same = ap (λ s. f s n) here in omega arith
  from_next slot (n ∷ ns) (suc k) at e within = let rest = from_next (suc slot) ns k at (omega arith) (omega arith) in omega arith

  from_most : (slot : ℕ) (ns : List ℕ) (k at : ℕ) → at ≡ slot + k → k < length ns → weigh_from f slot (take k ns) + f at (get_or ns k 0) ≤ weigh_from f slot ns
  from_most slot [] k at e within = absurd (omega arith)
  from_most slot (n ∷ ns) zero at e within = let here : at ≡ slot = omega arith in let same = ap (λ s. f s n) here in omega arith
  from_most slot (n ∷ ns) (suc k) at e within = let rest = from_most (suc slot) ns k at (omega arith) (omega arith) in omega arith

  -- a loop comes to the next number
  pub next_named : (ns : List ℕ) (k : ℕ) → k < length ns → weigh_from f 0 (take (k + 1) ns) ≡ weigh_from f 0 (take k ns) + f k (get_or ns k 0)
  next_named ns k within =
      let next : k + 1 ≡ suc k = omega arith in
      ap (λ j. weigh_from f 0 (take j ns)) next ∙ from_next 0 ns k k (omega arith) within

  -- it names no more than all do, less those before it
  pub most_named : (ns : List ℕ) (k : ℕ) → k < length ns → weigh_from f 0 (take k ns) + f k (get_or ns k 0) ≤ weigh_from f 0 ns
  most_named ns k within = from_most 0 ns k k (omega arith) within

-- the numbers up to where all that follow are 0 name what all do
module _ (ns : List ℕ) (used : ℕ) (past : (k : ℕ) → used ≤ k → get_or ns k 0 ≡ 0) where
  pub front_same : (k : ℕ) → get_or (take used ns) k 0 ≡ get_or ns k 0
  front_same k = elim (cases_lt k used) [
    | inl lt ↦ get_or-take used ns k 0 lt
    | inr ge ↦ get_or_past (take used ns) k 0 (let few = length-take used ns in omega arith) ∙ sym (past k ge)
  ]

  pub front_names : (f : ℕ → ℕ → ℕ) → ((slot : ℕ) → f slot 0 ≡ 0) → weigh_from f 0 (take used ns) ≡ weigh_from f 0 ns
  front_names f none = from_front ns used 0 past
    where
      nothing : (slot : ℕ) (ns : List ℕ) → ((k : ℕ) → get_or ns k 0 ≡ 0) → weigh_from f slot ns ≡ 0
      nothing slot [] zeros = refl
      nothing slot (n ∷ ns) zeros =
          let here = ap (f slot) (zeros 0) ∙ none slot in
          let rest = nothing (suc slot) ns (λ k. zeros (suc k)) in omega arith

      from_front : (ns : List ℕ) (used slot : ℕ) → ((k : ℕ) → used ≤ k → get_or ns k 0 ≡ 0) → weigh_from f slot (take used ns) ≡ weigh_from f slot ns
      from_front ns zero slot zeros = sym (nothing slot ns (λ k. zeros k (omega arith)))
      from_front [] (suc used) slot zeros = refl
      from_front (n ∷ ns) (suc used) slot zeros =
          let rest = from_front ns used (suc slot) (λ k le. zeros (suc k) (omega arith)) in omega arith
