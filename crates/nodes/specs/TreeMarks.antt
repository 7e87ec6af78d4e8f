-- Which entries of a node have a marked node below them: a walk over the marked nodes passes over all others.
use Rattle.std.specs.Prelude.{◌≡◌, ℕ, Bool, true, false, List, Option}
use Rattle.std.proofs.Common.{zero, suc}
use Rattle.geometry.specs.Weights.{weigh}
use Rattle.nodes.specs.Change.{Weighing, each_marked}

-- 1 where there is one or more
abbrev pub one_of : ℕ → ℕ
one_of zero = 0
one_of (suc n) = 1

-- 1 where it is so
abbrev pub one_if : Bool → ℕ
one_if false = 0
one_if true = 1

-- 1 where a node of a subtree is marked
abbrev pub mark_of : {L C : Type 0} → (Weighing L → Option C → ℕ) → Option C → ℕ
mark_of weight slot = one_of (weight each_marked slot)

-- so many entries have a marked node below them
abbrev pub AreCounted : {L C : Type 0} → (Weighing L → Option C → ℕ) → ℕ → List (Option C) → Type 0
AreCounted weight count slots = count ≡ weigh (mark_of weight) slots
