-- A list with empty slots behind it has at each place what the list has there, or nothing: so a read or a write of the
-- list is one of the slots, and more empty slots are no others.
use Rattle.std.proofs.Common.{◌≡◌, ℕ, ◌+◌, ◌-◌, ◌<◌, ◌≤◌, List, ◌++◌, length, drop, get_or, set, replicate, Option, None, refl, subst, sym, ap, ◌∙◌, inl, inr, arith, length-append, append_assoc}
use Rattle.std.proofs.lemmas.Bool.{cases_lt}
use Rattle.std.proofs.lemmas.List.{length-replicate, length-drop, replicate-append-replicate, set-append_left, length-set, get_or-drop, drop-set-add, drop-append-le, get_or_append_left, get_or-append_right, get_or-replicate, get_or_past}
use Rattle.nodes.specs.Tree.{AreNone, entry_at}
use Rattle.nodes.specs.Padded.{padded}

-- of slots with nothing each has nothing
pub nothing-at : {T : Type 0} (n k : ℕ) → entry_at {C = T} (replicate n None) k ≡ None
nothing-at {T} n k = elim (cases_lt k n) [
  | inl lt ↦ get_or-replicate n k None None lt
  | inr ge ↦ get_or_past (replicate n None) k None (omega (arith, length-replicate {A = Option T} n None))
]

module _ {T : Type 0} (count : ℕ) (stored : List (Option T)) (some : 0 < length stored) where
  -- so many slots with nothing
  abbrev nothings : ℕ → List (Option T)
  nothings n = replicate n None

  -- how many slots are not stored
  abbrev rest : ℕ
  rest = count + 1 - length stored

  longer : (n : ℕ) → length (stored ++ nothings n) ≡ length stored + n
  longer n = length-append stored (nothings n) ∙ ap (λ m. length stored + m) (length-replicate n None)

  used : length (drop 1 stored) + 1 ≡ length stored
  used = let l = length-drop 1 stored in omega arith

  pub length-padded : length stored ≤ count + 1 → length (padded count stored) ≡ count
  length-padded h =
      let all = length-append (drop 1 stored) (nothings rest) in
      let nothing = length-replicate {A = Option T} rest None in
      omega (arith, used)

  -- more slots with nothing are no others
  module _ (n : ℕ) (more : List (Option T)) (is : more ≡ stored ++ replicate n None) where
    pub length-more : length more ≡ length stored + n
    length-more = rw is (longer n)

    pub padded-more : length stored + n ≤ count + 1 → padded count more ≡ padded count stored
    padded-more h =
        let fewer = count + 1 - (length stored + n) in
        let left : n + fewer ≡ rest = omega arith in
        rw (is, longer n) (ap (λ r. r ++ nothings fewer) (drop-append-le 1 stored (nothings n) some)
        ∙ append_assoc (drop 1 stored) (nothings n) (nothings fewer)
        ∙ ap (λ r. drop 1 stored ++ r) (replicate-append-replicate n fewer None ∙ ap nothings left))

  next : (at : ℕ) → 1 + at ≡ at + 1
  next at = omega arith

  -- a write of one of the list is a write of that slot
  pub padded-set : (at : ℕ) (slot : Option T) → at + 1 < length stored → padded count (set stored (at + 1) slot) ≡ set (padded count stored) at slot
  padded-set at slot h =
      let within : at < length (drop 1 stored) = omega (arith, used) in
      let there = subst (λ n. drop 1 (set stored n slot) ≡ set (drop 1 stored) at slot) (next at) (drop-set-add 1 stored at slot) in
      rw (length-set stored (at + 1) slot) (ap (λ r. r ++ nothings rest) there ∙ sym (set-append_left (drop 1 stored) (nothings rest) at slot within))

  -- what one of the list is
  pub padded-at : (at : ℕ) (d : Option T) → at + 1 < length stored → get_or (padded count stored) at d ≡ get_or stored (at + 1) d
  padded-at at d h =
      let within : at < length (drop 1 stored) = omega (arith, used) in
      let there = subst (λ n. get_or (drop 1 stored) at d ≡ get_or stored n d) (next at) (get_or-drop 1 stored at d) in
      get_or_append_left (drop 1 stored) (nothings rest) d at within ∙ there

  -- each slot has what the list has there
  pub padded-entry : (k : ℕ) → entry_at (padded count stored) k ≡ entry_at stored (k + 1)
  padded-entry k = elim (cases_lt (k + 1) (length stored)) [
    | inl lt ↦ padded-at k None lt
    | inr ge ↦
        let behind : length (drop 1 stored) ≤ k = omega (arith, used) in
        let there : entry_at (padded count stored) k ≡ entry_at (nothings rest) (k - length (drop 1 stored)) = get_or-append_right (drop 1 stored) (nothings rest) (length (drop 1 stored)) k None refl behind in
        there ∙ nothing-at rest (k - length (drop 1 stored)) ∙ sym (get_or_past stored (k + 1) None ge)
  ]

  -- where no slot has anything, nothing stored has
  pub stored-nothing : entry_at stored 0 ≡ None → AreNone (padded count stored) → AreNone stored
  stored-nothing first none k = elim (cases_lt 0 k) [
    | inl lt ↦
        let behind : (k - 1) + 1 ≡ k = omega arith in
        subst (λ n. entry_at stored n ≡ None) behind (sym (padded-entry (k - 1)) ∙ none (k - 1))
    | inr ge ↦
        let is : 0 ≡ k = omega arith in
        subst (λ n. entry_at stored n ≡ None) is first
  ]
