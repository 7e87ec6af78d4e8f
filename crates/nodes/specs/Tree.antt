-- The map that a tree of nodes gives, from indexes to tickets (Linux filesystems/f2fs, index structure).
use Rattle.std.proofs.Common.{zero, suc}
use Rattle.std.specs.Prelude.{Bool, true, false, if◌then◌else◌, ◌≡◌, ◌≢◌, ℕ, ◌+◌, ◌*◌, ◌/◌, ◌%◌, ◌<◌, ◌≤◌, ◌⊎◌, List, length, slice_index_or, Option, Some, None}
use Rattle.nodes.specs.declared.spare.Spare.{Spare}
use Rattle.nodes.specs.declared.spare.Spare.TheVariants.{Ticket, Token}

-- the map is changed at one index
abbrev pub SetsAt : {L : Type 0} → (ℕ → L) → (ℕ → L) → ℕ → L → Type 0
SetsAt old new i v = (new i ≡ v) × ((j : ℕ) → j ≢ i → new j ≡ old j)

-- the two maps are one
abbrev pub Same : {L : Type 0} → (ℕ → L) → (ℕ → L) → Type 0
Same old new = (j : ℕ) → new j ≡ old j

-- the map has nothing at or past an index
abbrev pub EmptyFrom : {L : Type 0} → (ℕ → Option L) → ℕ → Type 0
EmptyFrom old from = (j : ℕ) → from ≤ j → old j ≡ None

-- a ticket that is handed out stood at or past the index; a token leaves the map as it was
abbrev pub HandsOut : {L : Type 0} → (ℕ → Option L) → (ℕ → Option L) → ℕ → Spare L → Type 0
HandsOut old new from (Ticket t) = (i : ℕ) × (from ≤ i) × (old i ≡ Some t) × SetsAt old new i None
HandsOut old new from (Token k) = Same old new

-- the same of one index
abbrev pub HandsOutAt : {L : Type 0} → (ℕ → Option L) → (ℕ → Option L) → ℕ → Spare L → Type 0
HandsOutAt old new i (Ticket t) = (old i ≡ Some t) × SetsAt old new i None
HandsOutAt old new i (Token k) = Same old new

-- one ticket went from an index, and another came there
abbrev pub SwapsOne : {L : Type 0} → (ℕ → Option L) → (ℕ → Option L) → L → L → Type 0
SwapsOne old new before after = (i : ℕ) × (old i ≡ Some before) × SetsAt old new i (Some after)

-- the one index below a ticket is 0
abbrev pub only_at_zero : {L : Type 0} → Option L → ℕ → Option L
only_at_zero slot zero = slot
only_at_zero slot (suc _) = None

-- the subtree at an entry, if there is one
abbrev pub entry_at : {C : Type 0} → List (Option C) → ℕ → Option C
entry_at slots k = slice_index_or slots k None

-- the ticket at an index: its entry by division, and the rest of the way below that
abbrev pub find_in : {C L : Type 0} → (Option C → ℕ → Option L) → ℕ → List (Option C) → ℕ → Option L
find_in find span slots i = find (entry_at slots (i / span)) (i % span)

-- the nodes that are missing on the way to an index
abbrev pub missing_in : {C : Type 0} → (Option C → ℕ → ℕ) → ℕ → List (Option C) → ℕ → ℕ
missing_in missing span slots i = missing (entry_at slots (i / span)) (i % span)

-- so many entries, and below each of them a tree of the right shape
abbrev pub ShapedIn : {C : Type 0} → (Option C → Type 0) → ℕ → List (Option C) → Type 0
ShapedIn Shaped count slots = (length slots ≡ count) × ((k : ℕ) → Shaped (entry_at slots k))

-- no entry names anything
abbrev pub AreNone : {C : Type 0} → List (Option C) → Type 0
AreNone slots = (k : ℕ) → entry_at slots k ≡ None

-- the same below a node, which may be missing
abbrev pub find_below : {B C L : Type 0} → (B → List (Option C)) → (Option C → ℕ → Option L) → ℕ → Option B → ℕ → Option L
find_below slots find span None i = None
find_below slots find span (Some b) i = find_in find span (slots b) i

abbrev pub missing_below : {B C : Type 0} → (B → List (Option C)) → (Option C → ℕ → ℕ) → ℕ → Option B → ℕ → ℕ
missing_below slots missing span None i = 1 + missing None (i % span)
missing_below slots missing span (Some b) i = missing_in missing span (slots b) i

-- and a node has counted which of its entries have marked nodes below them
abbrev pub ShapedBelow : {B C : Type 0} → (B → List (Option C)) → (Option C → Type 0) → (B → Type 0) → ℕ → Option B → Type 0
ShapedBelow slots Shaped Counted entries None = Unit {0}
ShapedBelow slots Shaped Counted entries (Some b) = ShapedIn Shaped entries (slots b) × Counted b

-- the number of the node whose entries hold an index, below a node which may be missing
abbrev pub namer_below : {B C : Type 0} → (B → ℕ) → (B → List (Option C)) → Bool → (Option C → ℕ → Option ℕ) → ℕ → Option B → ℕ → Option ℕ
namer_below number slots is_leaf namer span None i = None
namer_below number slots is_leaf namer span (Some b) i = if is_leaf then Some (number b) else find_in namer span (slots b) i

-- where a ticket stands, the node that names it has the number that it had
abbrev pub KeepsNamers : {L : Type 0} → (ℕ → Option L) → (ℕ → Option ℕ) → (ℕ → Option ℕ) → Type 0
KeepsNamers {L} find old new = (j : ℕ) (t : L) → find j ≡ Some t → new j ≡ old j

-- the number that stands for a slot in a node's block: 0 where there is nothing
abbrev pub number_of : {B : Type 0} → (B → ℕ) → Option B → ℕ
number_of number None = 0
number_of number (Some b) = number b

-- Each node that is asked about names something. A node is told by the first index that it holds and by the end of them.
abbrev pub UsefulIn : {C : Type 0} → ((ℕ → ℕ → Bool) → ℕ → Option C → Type 0) → ℕ → (ℕ → ℕ → Bool) → ℕ → List (Option C) → Type 0
UsefulIn Useful span asked first slots = (k : ℕ) → Useful asked (first + k * span) (entry_at slots k)

abbrev pub UsefulBelow : {B C : Type 0} → (B → List (Option C)) → ((ℕ → ℕ → Bool) → ℕ → Option C → Type 0) → ℕ → ℕ → (ℕ → ℕ → Bool) → ℕ → Option B → Type 0
UsefulBelow slots Useful span entries asked first None = Unit {0}
UsefulBelow slots Useful span entries asked first (Some b) =
    (asked first (first + entries * span) ≡ true → AreNone (slots b) → ⊥) × UsefulIn Useful span asked first (slots b)

-- it asks about no node that holds an index
abbrev pub SparesIndex : (ℕ → ℕ → Bool) → ℕ → Type 0
SparesIndex asked i = (first end : ℕ) → first ≤ i → i < end → asked first end ≡ false

-- about no node that reaches past an index
abbrev pub SparesPast : (ℕ → ℕ → Bool) → ℕ → Type 0
SparesPast asked i = (first end : ℕ) → i < end → asked first end ≡ false

-- and, of the nodes from `start` on, about those alone
abbrev pub AsksPast : (ℕ → ℕ → Bool) → ℕ → ℕ → Type 0
AsksPast asked start i = (first end : ℕ) → start ≤ first → first < end → asked first end ≡ true → i < end

-- of the nodes from `start` on, it asks about those alone that hold an index
abbrev pub AsksHolding : (ℕ → ℕ → Bool) → ℕ → ℕ → Type 0
AsksHolding asked start i = (first end : ℕ) → start ≤ first → first < end → asked first end ≡ true → (first ≤ i) × (i < end)

-- of the nodes between two indexes, each that one test asks about one of two others asks about
abbrev pub AsksEither : ℕ → ℕ → (ℕ → ℕ → Bool) → (ℕ → ℕ → Bool) → (ℕ → ℕ → Bool) → Type 0
AsksEither start stop asked one other =
    (first end : ℕ) → start ≤ first → first < end → end ≤ stop → asked first end ≡ true → (one first end ≡ true) ⊎ (other first end ≡ true)
