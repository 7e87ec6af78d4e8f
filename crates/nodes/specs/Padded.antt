-- What a contract sees of a row of slots.
use Rattle.std.specs.Prelude.{ℕ, ◌+◌, ◌-◌, List, ◌++◌, length, drop, replicate, slice_set, Option, None, refl}
use Rattle.std.specs.Coded.{Coded, code_by, coded_list, coded_option}

-- what each slot has, in order
pub record Slots (T : Type 0) : Type 0 where
  pub items : List (Option T)

-- a row is stored as its list
abbrev pub slots_code : {T : Type 0} → Coded T → Coded (Slots T)
slots_code {T} code =
    code_by (List (Option T)) (coded_list (coded_option code)) (λ s. s.items) (λ xs. record { items = xs }) (λ _. refl)

module _ {T : Type 0} where
  -- what is stored behind the first, and behind that nothing up to so many slots
  abbrev pub padded : ℕ → List (Option T) → List (Option T)
  padded count stored = drop 1 stored ++ replicate (count + 1 - length stored) None

  -- the row after a write of one slot
  abbrev pub with_slot : Slots T → ℕ → Option T → Slots T
  with_slot s at slot = record { items = slice_set s.items at slot }
