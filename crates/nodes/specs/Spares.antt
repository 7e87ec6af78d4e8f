-- Nodes that are made before they are needed: of each level at most one.
use Rattle.std.specs.Prelude.{◌≡◌, ℕ, ◌+◌, ◌/◌, ◌%◌, Bool, true, List, length, is_none, if◌then◌else◌, Option, Some, None}
use Rattle.rights_books.specs.declared.claim.TakenNumber.{TakenNumber}
use Rattle.nodes.specs.declared.branch.Branch.{Branch}
use Rattle.nodes.specs.Tree.{AreNone, entry_at, number_of}

-- where a node has entries that hold an index, it has them still
abbrev pub KeepsNames : (ℕ → Option ℕ) → (ℕ → Option ℕ) → Type 0
KeepsNames old new = (j n : ℕ) → old j ≡ Some n → new j ≡ Some n

-- one where there is no node
abbrev pub lack : {A : Type 0} → Option A → ℕ
lack spare = if is_none spare then 1 else 0

-- the nodes that are still to be made for the way to an index below these entries
abbrev pub lacking_in : {C S : Type 0} → (Option C → ℕ → S → ℕ) → ℕ → List (Option C) → ℕ → S → ℕ
lacking_in lacking span slots i spares = lacking (entry_at slots (i / span)) (i % span) spares

-- the same below a node, which may be missing
abbrev pub lacking_below : {C S : Type 0} → (Option C → ℕ → S → ℕ) → ℕ → Option (Branch C) → ℕ → Option (Branch C) → S → ℕ
lacking_below lacking span None i spare below = lack spare + lacking None (i % span) below
lacking_below lacking span (Some b) i spare below = lacking_in lacking span b.entries.slots.items i below

-- what the token of a node weighs, if there is one
abbrev pub token_weight : {C : Type 0} → (TakenNumber → ℕ) → Option (Branch C) → ℕ
token_weight h None = 0
token_weight h (Some b) = h b.token

-- a node that is still to be written, of so many entries that name nothing, so that none has a marked node below it
abbrev pub IsEmptyNode : {C : Type 0} → ℕ → Option (Branch C) → Type 0
IsEmptyNode entries None = Unit {0}
IsEmptyNode entries (Some b) = (length b.entries.slots.items ≡ entries) × AreNone b.entries.slots.items × (b.entries.dirty ≡ true) × (b.entries.marked ≡ 0)

-- the number of the node whose entries name tickets, 0 where there is none
abbrev pub number_at_end : {C S : Type 0} → Bool → (S → ℕ) → Option (Branch C) → S → ℕ
number_at_end is_leaf below_it spare below = if is_leaf then number_of (λ b. b.token.number) spare else below_it below
