-- What a call does to the nodes and tickets of a tree, by weight: for every weighing, what stands there after it and what
-- went weigh what stood there and what came. So nothing is lost, and no two are one.
use Rattle.std.specs.Prelude.{◌≡◌, ℕ, ◌+◌, ◌==◌, ◌&&◌, Bool, true, false, if◌then◌else◌, List, [], map, slice_index_or, Option, Some, None}
use Rattle.geometry.specs.declared.kind.Kind.{Kind}
use Rattle.geometry.specs.declared.kind.Kind.TheVariants.{File}
use Rattle.rights_books.specs.declared.claim.TakenNumber.{TakenNumber}
use Rattle.geometry.specs.Weights.{weigh}
use Rattle.nodes.specs.declared.spare.Spare.{Spare}
use Rattle.nodes.specs.declared.spare.Spare.TheVariants.{Ticket, Token}

-- A node: its token, its class (0 an inode, 1 a direct node, 2 an indirect one), what its block spells, and whether it is
-- marked, as changed since its block was written. Kind and length stand in an inode alone.
pub record TreeNode : Type 0 where
  pub token : TakenNumber
  pub class : ℕ
  pub kind : Kind
  pub length : ℕ
  pub addresses : List ℕ
  pub children : List ℕ
  pub dirty : Bool

-- a weight for each ticket and for each node
pub record Weighing (L : Type 0) : Type 0 where
  pub ticket : L → ℕ
  pub node : TreeNode → ℕ

-- a node other than an inode, of these entries
abbrev pub tree_node : Bool → TakenNumber → List ℕ → Bool → TreeNode
tree_node is_leaf token numbers dirty = record {
  token = token;
  class = (if is_leaf then 1 else 2);
  kind = File;
  length = 0;
  addresses = (if is_leaf then numbers else []);
  children = (if is_leaf then [] else numbers);
  dirty = dirty;
}

abbrev pub ticket_weight : {L : Type 0} → Weighing L → Option L → ℕ
ticket_weight w None = 0
ticket_weight w (Some t) = w.ticket t

-- the nodes and tickets of a tree
abbrev pub weight_below : {L B C : Type 0} → (B → TreeNode) → (B → List (Option C)) → (Weighing L → Option C → ℕ) → Weighing L → Option B → ℕ
weight_below node slots weight w None = 0
weight_below node slots weight w (Some b) = w.node (node b) + weigh (weight w) (slots b)

-- the one node that a call changed, as it was and as it is
abbrev pub Touched : Type 0
Touched = Option (TreeNode × TreeNode)

abbrev pub gone : {L : Type 0} → Weighing L → Touched → ℕ
gone w None = 0
gone w (Some t) = w.node t.0

abbrev pub come : {L : Type 0} → Weighing L → Touched → ℕ
come w None = 0
come w (Some t) = w.node t.1

-- Where the caller's own entry was changed, no node was. Else one was: it has its token still, and is marked.
abbrev pub MarksOne : Bool → Touched → Type 0
MarksOne true None = Unit {0}
MarksOne true (Some t) = ⊥
MarksOne false None = ⊥
MarksOne false (Some t) = (t.1.token ≡ t.0.token) × (t.1.dirty ≡ true)

abbrev pub Trades : {L : Type 0} → Bool → (Weighing L → ℕ) → (Weighing L → ℕ) → (Weighing L → ℕ) → (Weighing L → ℕ) → Type 0
Trades {L} own old new out into =
    (touched : Touched) × MarksOne own touched × ((w : Weighing L) → new w + (gone w touched + out w) ≡ old w + (come w touched + into w))

-- The same of what stands in a slot. Where the slot's own number is another, its owner is the node to be marked.
abbrev pub ChangesSlot : {L C : Type 0} → (Option C → ℕ) → (Weighing L → Option C → ℕ) → Bool → Option C → Option C → (Weighing L → ℕ) → (Weighing L → ℕ) → Type 0
ChangesSlot number weight own old new out into =
    Trades own (λ w. weight w old) (λ w. weight w new) out into × (own ≡ false → number new ≡ number old)

-- The same of the entries of one node. Where they were changed, they are marked.
pub record ChangesEntries {L C : Type 0} (number : Option C → ℕ) (weight : Weighing L → Option C → ℕ) (old new : List (Option C)) (was_dirty is_dirty : Bool) (out into : Weighing L → ℕ) : Type 0 where
  pub own : Bool
  pub trades : Trades own (λ w. weigh (weight w) old) (λ w. weigh (weight w) new) out into
  pub kept : own ≡ false → (map number new ≡ map number old) × (is_dirty ≡ was_dirty)
  pub marked : own ≡ true → is_dirty ≡ true

-- nothing weighs anything
abbrev pub nothing : {L : Type 0} → Weighing L → ℕ
nothing w = 0

-- what is handed out: a ticket, or a node with its token
abbrev pub WeighsAs : {L : Type 0} → Spare L → (Weighing L → ℕ) → Type 0
WeighsAs {L} (Ticket t) out = (w : Weighing L) → out w ≡ w.ticket t
WeighsAs {L} (Token k) out = (n : TreeNode) × (n.token ≡ k) × ((w : Weighing L) → out w ≡ w.node n)

-- a node of this token, still to be written
abbrev pub IsNewNode : TakenNumber → TreeNode → Type 0
IsNewNode token n = (n.token ≡ token) × (n.dirty ≡ true)

-- 1 for each ticket and each node
abbrev pub each_one : {L : Type 0} → Weighing L
each_one = record { ticket = λ t. 1; node = λ n. 1 }

-- 1 for each node that is marked
abbrev pub each_marked : {L : Type 0} → Weighing L
each_marked = record { ticket = λ t. 0; node = λ n. if n.dirty then 1 else 0 }

-- whether a node of this number has the address of a data block at an entry
abbrev pub names : ℕ → ℕ → ℕ → TreeNode → Bool
names number at address n = (n.token.number == number) && (slice_index_or n.addresses at 0 == address)

-- 1 for each node that does
abbrev pub each_naming : {L : Type 0} → ℕ → ℕ → ℕ → Weighing L
each_naming number at address = record { ticket = λ t. 0; node = λ n. if names number at address n then 1 else 0 }

-- the weight of the tickets alone, and of the tokens alone
abbrev pub of_tickets : {L : Type 0} → (L → ℕ) → Weighing L
of_tickets h = record { ticket = h; node = λ n. 0 }

abbrev pub of_tokens : {L : Type 0} → (TakenNumber → ℕ) → Weighing L
of_tokens h = record { ticket = λ t. 0; node = λ n. h n.token }

-- 1 for a token without a number
abbrev pub unnumbered : TakenNumber → ℕ
unnumbered e = if e.number == 0 then 1 else 0
