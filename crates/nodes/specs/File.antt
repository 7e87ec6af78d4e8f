-- What a file's state holds at each index (Linux filesystems/f2fs, index structure).
use Rattle.std.specs.Prelude.{◌≡◌, ℕ, ◌+◌, ◌-◌, ◌*◌, nat_lt, cond, true, false, ◌||◌, ◌++◌, map, Option, Some, None}
use Rattle.std.proofs.Common.{zero, suc}
use Rattle.std.specs.Ordering.{nat_cmp}
use Rattle.std.specs.FinMap.{FinMap, get, insert, empty}
use Rattle.geometry.specs.Weights.{weigh}
use Rattle.geometry.specs.Path.{inode_entries, node_entries}
use Rattle.geometry.specs.File.{File, Block}
use Rattle.geometry.specs.declared.path.Path.{Path}
use Rattle.geometry.specs.declared.path.Path.TheVariants.{Inode, Direct, Indirect, Double}
use Rattle.tickets.specs.Placed.{Placed}
use Rattle.nodes.specs.declared.branch.Branch.{Branch}
use Rattle.nodes.specs.Tree.{find_in, find_below, missing_in, missing_below, ShapedIn, ShapedBelow, AreNone, only_at_zero, number_of, EmptyFrom, entry_at}
use Rattle.nodes.specs.Change.{TreeNode, Weighing, tree_node, ticket_weight, weight_below, each_one}
use Rattle.nodes.specs.TreeMarks.{AreCounted}
use Rattle.nodes.specs.declared.file.FileState.{FileState}

-- one map up to a width, and another from there on
abbrev pub joined : {A : Type 0} → ℕ → (ℕ → A) → (ℕ → A) → ℕ → A
joined width first rest i = cond (nat_lt i width) (first i) (rest (i - width))

-- the subtree at an entry of a node, which may be missing
abbrev pub below : {C : Type 0} → Option (Branch C) → ℕ → Option C
below None s = None
below (Some b) s = entry_at b.entries.slots.items s

-- what a ticket, a direct node, an indirect node and a double indirect one are called in the block of the node that names them
abbrev pub address_of : Option Placed → ℕ
address_of = number_of (λ t. t.mark.address)

abbrev pub nid_of : {C : Type 0} → Option (Branch C) → ℕ
nid_of = number_of (λ b. b.token.number)

abbrev pub find_direct : ℕ → Option (Branch Placed) → ℕ → Option Placed
find_direct e = find_below (λ b. b.entries.slots.items) only_at_zero 1

abbrev pub find_indirect : ℕ → Option (Branch (Branch Placed)) → ℕ → Option Placed
find_indirect e = find_below (λ b. b.entries.slots.items) (find_direct e) (e * 1)

abbrev pub find_double : ℕ → Option (Branch (Branch (Branch Placed))) → ℕ → Option Placed
find_double e = find_below (λ b. b.entries.slots.items) (find_indirect e) (e * (e * 1))

abbrev pub weight_direct : Weighing Placed → Option (Branch Placed) → ℕ
weight_direct = weight_below (λ b. tree_node true b.token (map address_of b.entries.slots.items) b.entries.dirty) (λ b. b.entries.slots.items) ticket_weight

abbrev pub weight_indirect : Weighing Placed → Option (Branch (Branch Placed)) → ℕ
weight_indirect = weight_below (λ b. tree_node false b.token (map nid_of b.entries.slots.items) b.entries.dirty) (λ b. b.entries.slots.items) weight_direct

abbrev pub weight_double : Weighing Placed → Option (Branch (Branch (Branch Placed))) → ℕ
weight_double = weight_below (λ b. tree_node false b.token (map nid_of b.entries.slots.items) b.entries.dirty) (λ b. b.entries.slots.items) weight_indirect

-- a node has counted which of its entries have marked nodes below them
abbrev pub counted_direct : Branch Placed → Type 0
counted_direct b = AreCounted ticket_weight b.entries.marked b.entries.slots.items

abbrev pub counted_indirect : Branch (Branch Placed) → Type 0
counted_indirect b = AreCounted weight_direct b.entries.marked b.entries.slots.items

abbrev pub counted_double : Branch (Branch (Branch Placed)) → Type 0
counted_double b = AreCounted weight_indirect b.entries.marked b.entries.slots.items

abbrev pub shaped_direct : ℕ → Option (Branch Placed) → Type 0
shaped_direct e = ShapedBelow (λ b. b.entries.slots.items) (λ _. Unit {0}) counted_direct e

abbrev pub shaped_indirect : ℕ → Option (Branch (Branch Placed)) → Type 0
shaped_indirect e = ShapedBelow (λ b. b.entries.slots.items) (shaped_direct e) counted_indirect e

abbrev pub shaped_double : ℕ → Option (Branch (Branch (Branch Placed))) → Type 0
shaped_double e = ShapedBelow (λ b. b.entries.slots.items) (shaped_indirect e) counted_double e

abbrev pub missing_direct : ℕ → Option (Branch Placed) → ℕ → ℕ
missing_direct e = missing_below (λ b. b.entries.slots.items) (λ _ _. 0) 1

abbrev pub missing_indirect : ℕ → Option (Branch (Branch Placed)) → ℕ → ℕ
missing_indirect e = missing_below (λ b. b.entries.slots.items) (missing_direct e) (e * 1)

abbrev pub missing_double : ℕ → Option (Branch (Branch (Branch Placed))) → ℕ → ℕ
missing_double e = missing_below (λ b. b.entries.slots.items) (missing_indirect e) (e * (e * 1))

abbrev pub content_of : Option Placed → Option Block
content_of None = None
content_of (Some t) = Some t.content

-- the blocks of a map below an index
abbrev pub with_block : ℕ → Option Block → FinMap nat_cmp Block → FinMap nat_cmp Block
with_block i None blocks = blocks
with_block i (Some b) blocks = insert blocks i b

abbrev pub blocks_below : ℕ → (ℕ → Option Placed) → FinMap nat_cmp Block
blocks_below zero at = empty
blocks_below (suc n) at = with_block n (content_of (at n)) (blocks_below n at)

module _ {B L : Type 0} where
  -- the four ranges of the index, one after another
  abbrev pub in_tickets : FileState B L → ℕ → Option Placed
  in_tickets f = find_in only_at_zero 1 f.tickets.slots.items

  abbrev pub in_direct : FileState B L → ℕ → Option Placed
  in_direct f = find_in (find_direct (node_entries f.shape)) (node_entries f.shape * 1) f.direct.slots.items

  abbrev pub in_indirect : FileState B L → ℕ → Option Placed
  in_indirect f = find_in (find_indirect (node_entries f.shape)) (node_entries f.shape * (node_entries f.shape * 1)) f.indirect.slots.items

  abbrev pub in_double : FileState B L → ℕ → Option Placed
  in_double f = find_in (find_double (node_entries f.shape)) (node_entries f.shape * (node_entries f.shape * (node_entries f.shape * 1))) f.double.slots.items

  -- the ticket at an index
  abbrev pub ticket_at : FileState B L → ℕ → Option Placed
  ticket_at f =
      let e = node_entries f.shape in
      joined (inode_entries f.shape) (in_tickets f)
      (joined (2 * e) (in_direct f)
      (joined (2 * (e * e)) (in_indirect f) (in_double f)))

  -- the nodes that are missing on the way to an index
  abbrev pub missing_to : FileState B L → ℕ → ℕ
  missing_to f =
      let e = node_entries f.shape in
      joined (inode_entries f.shape) (λ _. 0)
      (joined (2 * e) (missing_in (missing_direct e) (e * 1) f.direct.slots.items)
      (joined (2 * (e * e)) (missing_in (missing_indirect e) (e * (e * 1)) f.indirect.slots.items)
      (missing_in (missing_double e) (e * (e * (e * 1))) f.double.slots.items)))

  -- each node has as many entries as the shape says, and nothing stands at or past the length
  pub record IsFile (f : FileState B L) : Type 0 where
    pub tickets : ShapedIn (λ _. Unit {0}) (inode_entries f.shape) f.tickets.slots.items
    pub direct : ShapedIn (shaped_direct (node_entries f.shape)) 2 f.direct.slots.items
    pub indirect : ShapedIn (shaped_indirect (node_entries f.shape)) 2 f.indirect.slots.items
    pub double : ShapedIn (shaped_double (node_entries f.shape)) 1 f.double.slots.items
    pub within : EmptyFrom (ticket_at f) f.length

  -- no entry of the inode names anything
  pub record IsBare (f : FileState B L) : Type 0 where
    pub tickets : AreNone f.tickets.slots.items
    pub direct : AreNone f.direct.slots.items
    pub indirect : AreNone f.indirect.slots.items
    pub double : AreNone f.double.slots.items

  -- what stands at the end of a path
  abbrev pub at_path : FileState B L → Path → Option Placed
  at_path f (Inode s) = entry_at f.tickets.slots.items s
  at_path f (Direct p s) = below (entry_at f.direct.slots.items p) s
  at_path f (Indirect p a s) = below (below (entry_at f.indirect.slots.items (p - 2)) a) s
  at_path f (Double a b s) = below (below (below (entry_at f.double.slots.items 0) a) b) s

  abbrev pub ends_at : FileState B L → Option Path → Option Placed
  ends_at f None = None
  ends_at f (Some p) = at_path f p

  -- the inode as a node: it is marked where its length or one of its entries was changed
  abbrev pub inode_of : FileState B L → TreeNode
  inode_of f = record {
    token = f.token;
    class = 0;
    kind = f.kind;
    length = f.length;
    addresses = map address_of f.tickets.slots.items;
    children = map nid_of f.direct.slots.items ++ (map nid_of f.indirect.slots.items ++ map nid_of f.double.slots.items);
    dirty = f.resized || (f.tickets.dirty || (f.direct.dirty || (f.indirect.dirty || f.double.dirty)));
  }

  -- what the tickets and the nodes below the inode weigh
  abbrev pub below_weight : FileState B L → Weighing Placed → ℕ
  below_weight f w =
      weigh (ticket_weight w) f.tickets.slots.items + (weigh (weight_direct w) f.direct.slots.items
      + (weigh (weight_indirect w) f.indirect.slots.items + weigh (weight_double w) f.double.slots.items))

  -- what all tickets and nodes of a file weigh
  abbrev pub weight_of : FileState B L → Weighing Placed → ℕ
  weight_of f w = w.node (inode_of f) + below_weight f w

  -- how many tickets, and nodes below the inode, there are
  abbrev pub count_of : FileState B L → ℕ
  count_of f = below_weight f each_one

  -- it is this file: the same kind and length, and at each index the same block or none
  pub record Shows (f : FileState B L) (file : File) : Type 0 where
    pub kind : f.kind ≡ file.kind
    pub length : f.length ≡ file.length
    pub blocks : (i : ℕ) → get file.blocks i ≡ content_of (ticket_at f i)

  -- the file that it is
  abbrev pub file_of : FileState B L → File
  file_of f = record { kind = f.kind; length = f.length; blocks = blocks_below f.length (ticket_at f) }
