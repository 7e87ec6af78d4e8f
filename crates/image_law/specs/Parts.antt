-- What a checkpoint is assembled from: segments, the shards of the node table, logs and the index trees of files.
use Rattle.geometry.specs.declared.owner.Mark.{Mark}
use Rattle.image.specs.declared.image.NodeEntry.{NodeEntry}
use Rattle.geometry.specs.declared.owner.Owner.{Owner}
use Rattle.geometry.specs.declared.owner.Summary.{Summary}
use Rattle.geometry.specs.Summary.{summary_of}
use Rattle.geometry.specs.declared.kind.Kind.{Kind}
use Rattle.geometry.specs.declared.kind.Kind.TheVariants.{File}
use Rattle.image.specs.declared.image.LogHead.{LogHead}
use Rattle.geometry.specs.declared.path.Path.{Path}
use Rattle.geometry.specs.declared.path.Path.TheVariants.{Inode, Direct, Indirect, Double}
use Rattle.std.specs.Prelude.{◌≡◌, ◌≢◌, ◌<◌, ◌≤◌, ℕ, zero, suc, ◌+◌, ◌%◌, ◌==◌, Bool, true, false, if◌then◌else◌, List, [], ◌∷◌, length, map, slice_index, slice_index_or, sum_by, count_by, Option, Some, None, IfSome, All, AllPairs}
use Rattle.std.specs.List.{flat_map}
use Rattle.geometry.specs.declared.shape.Shape.{Shape}
use Rattle.geometry.specs.declared.geometry.Geometry.{Geometry}
use Rattle.geometry.specs.Path.{largest_length, path}
use Rattle.geometry.specs.Address.{address_of}
use Rattle.image.specs.Node.{Node, HasEntries}
use Rattle.image.specs.Image.{Image, SegmentInfo, no_entry, no_node, no_summary, entry_of, node_of}
use Rattle.geometry.specs.declared.owner.Owner.TheVariants.{Node as OfNode}
use Rattle.image.specs.Walk.{data_names, class_at}
use Rattle.image.specs.Rules.{AreApart}
use Rattle.geometry.specs.Weights.{weigh, SameItems}
use Rattle.image_law.specs.Items.{Among}
use Rattle.geometry.specs.Shape.{segment_blocks}

-- A segment: who names each of its blocks, and when it was last written. `marks` are the claims of the blocks that are
-- named, in any order; `log` is where the log that is open in it stands.
pub record SegmentState : Type 0 where
  pub number : ℕ
  pub mtime : ℕ
  pub summaries : List (Option Owner)
  pub marks : List Mark
  pub log : Option ℕ

abbrev pub no_state : SegmentState
no_state = record { number = 0; mtime = 0; summaries = []; marks = []; log = None }

-- who names a block
abbrev pub owner_at : SegmentState → ℕ → Option Owner
owner_at segment offset = slice_index_or segment.summaries offset None

-- a block is valid where somebody names it
abbrev pub is_named : Option Owner → Bool
is_named None = false
is_named (Some owner) = true

-- what stands in the segment summary area
abbrev pub summary_in : Option Owner → Summary
summary_in None = no_summary
summary_in (Some owner) = summary_of owner

-- the blocks that are named, each with its owner, where the first summary is that of the block at this address
abbrev pub marks_from : ℕ → List (Option Owner) → List Mark
marks_from address [] = []
marks_from address (None ∷ rest) = marks_from (suc address) rest
marks_from address (Some owner ∷ rest) = record { address = address; owner = owner } ∷ marks_from (suc address) rest

-- The law of a segment: the claims are of the blocks that are named, and the log that is open in it has no block past its place.
pub record SegmentLaw (shape : Shape) (segment : SegmentState) : Type 0 where
  pub sized : length segment.summaries ≡ segment_blocks shape
  pub marks : SameItems segment.marks (marks_from (address_of shape segment.number 0) segment.summaries)
  pub log : IfSome segment.log (λ next. (next < segment_blocks shape)
      × ((offset : ℕ) → next ≤ offset → owner_at segment offset ≡ None))

-- A node number that is taken: the file that it belongs to, and the block that it lies in.
pub record Token : Type 0 where
  pub nid : ℕ
  pub inode : ℕ
  pub address : ℕ

-- the entry of a node number in a shard
abbrev pub found : ℕ → List Token → NodeEntry
found nid [] = no_entry
found nid (e ∷ es) = if e.nid == nid then record { inode = e.inode; address = e.address } else found nid es

-- the shard with the number k
pub record ShardLaw (geometry : Geometry) (k : ℕ) (shard : List Token) : Type 0 where
  pub home : (e : Token) → Among e shard → e.nid % 16 ≡ k
  pub range : (e : Token) → Among e shard → (1 ≤ e.nid) × (e.nid ≤ geometry.nodes)
  pub single : (nid : ℕ) → weigh (λ e. if e.nid == nid then 1 else 0) shard ≤ 1

-- A node of an index tree: its number, the address of its block, and its slots.
pub record Branch (S : Type 0) : Type 0 where
  pub nid : ℕ
  pub address : ℕ
  pub slots : S

-- by level: a direct node has data addresses, of which 0 is none, and one above has nodes of the level below
abbrev pub Slots : ℕ → Type 0
Slots zero = List ℕ
Slots (suc level) = List (Option (Branch (Slots level)))

abbrev pub Tree : ℕ → Type 0
Tree level = Branch (Slots level)

abbrev pub nid_of : {S : Type 0} → Option (Branch S) → ℕ
nid_of None = 0
nid_of (Some tree) = tree.nid

abbrev pub each : {A B : Type 0} → (A → List B) → Option A → List B
each f None = []
each f (Some x) = f x

abbrev pub addresses_in : (level : ℕ) → Slots level → List ℕ
addresses_in zero slots = slots
addresses_in (suc level) slots = []

abbrev pub children_in : (level : ℕ) → Slots level → List ℕ
children_in zero slots = []
children_in (suc level) slots = map nid_of slots

-- a node with the address of the block that spells it
pub record Stored : Type 0 where
  pub node : Node
  pub address : ℕ

abbrev pub tree_node : ℕ → (level : ℕ) → Tree level → Node
tree_node inode level tree = record {
  nid = tree.nid;
  inode = inode;
  class = class_at level;
  length = 0;
  kind = File;
  addresses = addresses_in level tree.slots;
  children = children_in level tree.slots;
}

abbrev pub top : ℕ → (level : ℕ) → Tree level → Stored
top inode level tree = record { node = tree_node inode level tree; address = tree.address }

-- the nodes of a tree, from the top
abbrev pub stored_in : ℕ → (level : ℕ) → Tree level → List Stored
stored_in inode zero tree = top inode zero tree ∷ []
stored_in inode (suc level) tree = top inode (suc level) tree ∷ flat_map (each (stored_in inode level)) tree.slots

-- A file's inode and the trees below it.
pub record FileTree : Type 0 where
  pub inode : ℕ
  pub address : ℕ
  pub kind : Kind
  pub length : ℕ
  pub slots : List ℕ
  pub first_direct : Option (Tree 0)
  pub second_direct : Option (Tree 0)
  pub first_indirect : Option (Tree 1)
  pub second_indirect : Option (Tree 1)
  pub double : Option (Tree 2)

abbrev pub Subtree : Type 0
Subtree = (level : ℕ) × Option (Tree level)

abbrev pub subtrees : FileTree → List Subtree
subtrees file =
    (0, file.first_direct) ∷ (0, file.second_direct) ∷ (1, file.first_indirect) ∷ (1, file.second_indirect)
    ∷ (2, file.double) ∷ []

abbrev pub inode_node : FileTree → Node
inode_node file = record {
  nid = file.inode;
  inode = file.inode;
  class = 0;
  length = file.length;
  kind = file.kind;
  addresses = file.slots;
  children = map (λ (sub : Subtree). nid_of sub.1) (subtrees file);
}

abbrev pub stored_below : ℕ → List Subtree → List Stored
stored_below inode subs = flat_map (λ (sub : Subtree). each (stored_in inode sub.0) sub.1) subs

abbrev pub inode_stored : FileTree → Stored
inode_stored file = record { node = inode_node file; address = file.address }

-- all nodes of a file
abbrev pub stored_of : FileTree → List Stored
stored_of file = inode_stored file ∷ stored_below file.inode (subtrees file)

abbrev pub tickets_at : Stored → List Mark
tickets_at stored = data_names stored.node.nid 0 stored.node.addresses

abbrev pub token_at : Stored → Token
token_at stored = record { nid = stored.node.nid; inode = stored.node.inode; address = stored.address }

-- the tickets of a file's data blocks, and the tokens of its nodes
abbrev pub tickets_of : FileTree → List Mark
tickets_of file = flat_map tickets_at (stored_of file)

abbrev pub tokens_of : FileTree → List Token
tokens_of file = map token_at (stored_of file)

-- the address in a slot of a direct node, and below an indirect one
abbrev pub data_in : Option (Tree 0) → ℕ → ℕ
data_in None slot = 0
data_in (Some tree) slot = slice_index tree.slots slot

abbrev pub slot_of : {S : Type 0} → Option (Branch (List (Option S))) → ℕ → Option S
slot_of None slot = None
slot_of (Some tree) slot = slice_index_or tree.slots slot None

-- the pointers of a path that stand for the two direct and the two indirect nodes
abbrev pub direct_at : FileTree → ℕ → Option (Tree 0)
direct_at file zero = file.first_direct
direct_at file (suc pointer) = file.second_direct

abbrev pub indirect_at : FileTree → ℕ → Option (Tree 1)
indirect_at file (suc (suc zero)) = file.first_indirect
indirect_at file pointer = file.second_indirect

-- the address of the ticket at the end of a path, 0 where there is none
abbrev pub ticket_on : FileTree → Option Path → ℕ
ticket_on file None = 0
ticket_on file (Some (Inode slot)) = slice_index file.slots slot
ticket_on file (Some (Direct p slot)) = data_in (direct_at file p) slot
ticket_on file (Some (Indirect p a slot)) = data_in (slot_of (indirect_at file p) a) slot
ticket_on file (Some (Double a b slot)) = data_in (slot_of (slot_of file.double a) b) slot

abbrev pub ticket_at : Shape → FileTree → ℕ → ℕ
ticket_at shape file index = ticket_on file (path shape index)

pub record FileLaw (geometry : Geometry) (inode : ℕ) (file : FileTree) : Type 0 where
  pub number : file.inode ≡ inode
  pub flushed : (s : Stored) → Among s (stored_of file) → s.address ≢ 0
  pub others : (s : Stored) → Among s (stored_below file.inode (subtrees file)) → geometry.files < s.node.nid
  pub reach : file.length ≤ largest_length geometry.shape
  pub within : (index : ℕ) → ticket_at geometry.shape file index ≢ 0 → index < file.length

-- `files` has a place for each inode number from 1 on.
pub record Parts : Type 0 where
  pub segments : List SegmentState
  pub shards : List (List Token)
  pub logs : List (Option LogHead)
  pub files : List (Option FileTree)

abbrev pub segment_at : Parts → ℕ → SegmentState
segment_at parts k = slice_index_or parts.segments k no_state

abbrev pub shard_at : Parts → ℕ → List Token
shard_at parts k = slice_index_or parts.shards k []

abbrev pub file_at : Parts → ℕ → Option FileTree
file_at parts k = slice_index_or parts.files k None

pub record PartsLaw (geometry : Geometry) (parts : Parts) : Type 0 where
  pub segments : length parts.segments ≡ geometry.segments
  pub numbers : (k : ℕ) → k < geometry.segments → (segment_at parts k).number ≡ k
  pub states : (k : ℕ) → k < geometry.segments → SegmentLaw geometry.shape (segment_at parts k)
  pub shards : (k : ℕ) → ShardLaw geometry k (shard_at parts k)
  pub logs : length parts.logs ≡ 6
  pub opened : All (λ log. IfSome log (λ place. (place.segment < geometry.segments) × ((segment_at parts place.segment).log ≡ Some place.next))) parts.logs
  pub apart : AllPairs AreApart parts.logs
  pub as_many : length parts.files ≡ geometry.files
  pub files : (k : ℕ) (file : FileTree) → file_at parts k ≡ Some file → FileLaw geometry (k + 1) file

-- the ticket of the block of a node that is in the node table
abbrev pub node_ticket : (Mark → ℕ) → Token → ℕ
node_ticket h e = if e.address == 0 then 0 else h (record { address = e.address; owner = OfNode e.nid })

-- what the books tell who holds all permits
pub record Balanced (parts : Parts) : Type 0 where
  pub tickets : (h : Mark → ℕ) → weigh (λ s. weigh h s.marks) parts.segments
      ≡ weigh (λ file. weigh h (each tickets_of file)) parts.files + weigh (λ shard. weigh (node_ticket h) shard) parts.shards
  pub tokens : (h : Token → ℕ) → weigh (λ shard. weigh h shard) parts.shards
      ≡ weigh (λ file. weigh h (each tokens_of file)) parts.files

-- its entry of the segment information table
abbrev pub info : SegmentState → SegmentInfo
info segment =
    let bits = map is_named segment.summaries in
    record { count = count_by (λ bit. bit) bits; mtime = segment.mtime; bits = bits }

abbrev pub summaries_in : SegmentState → List Summary
summaries_in segment = map summary_in segment.summaries

-- The image of the parts.
pub record IsImageOf (geometry : Geometry) (parts : Parts) (image : Image) : Type 0 where
  pub version : 1 ≤ image.version
  pub total : image.total ≡ sum_by (λ s. (info s).count) parts.segments
  pub logs : image.logs ≡ parts.logs
  pub segments : image.segments ≡ map info parts.segments
  pub summaries : image.summaries ≡ flat_map summaries_in parts.segments
  pub table : length image.node_table ≡ geometry.nodes
  pub entries : (nid : ℕ) → 1 ≤ nid → nid ≤ geometry.nodes → entry_of image nid ≡ found nid (shard_at parts (nid % 16))
  pub nodes : length image.nodes ≡ geometry.nodes
  pub stored : (k : ℕ) (file : FileTree) (s : Stored) → file_at parts k ≡ Some file → Among s (stored_of file)
      → node_of image s.node.nid ≡ s.node
  pub sized : (k : ℕ) (file : FileTree) (s : Stored) → file_at parts k ≡ Some file → Among s (stored_of file)
      → HasEntries geometry.shape s.node s.node.class
  pub untaken : (nid : ℕ) → (entry_of image nid).address ≡ 0 → node_of image nid ≡ no_node
