-- How a file's state is seen as the plain index tree that an image is assembled from (Linux filesystems/f2fs, index structure).
use Rattle.std.specs.Prelude.{◌≡◌, ◌≢◌, ℕ, map, Option, Some, None}
use Rattle.image.specs.Image.{Image, entry_of, node_of}
use Rattle.image_law.specs.Items.{Among}
use Rattle.image_law.specs.Parts.{Token, Tree, Stored, FileTree, stored_of}
use Rattle.rights_books.specs.declared.claim.TakenNumber.{TakenNumber}
use Rattle.tickets.specs.Placed.{Placed}
use Rattle.nodes.specs.declared.branch.Branch.{Branch}
use Rattle.nodes.specs.Tree.{entry_at}
use Rattle.nodes.specs.Change.{TreeNode}
use Rattle.nodes.specs.declared.file.FileState.{FileState}
use Rattle.nodes.specs.File.{address_of}
use Rattle.nodes_law.specs.Nodes.{node_in}

-- what the node address table says of a node
abbrev pub token_of : TakenNumber → Token
token_of e = record { nid = e.number; inode = e.inode; address = e.address }

abbrev pub seen : {A T : Type 0} → (A → T) → Option A → Option T
seen see None = None
seen see (Some x) = Some (see x)

abbrev pub direct_tree : Branch Placed → Tree 0
direct_tree b = record { nid = b.token.number; address = b.token.address; slots = map address_of b.entries.slots.items }

abbrev pub indirect_tree : Branch (Branch Placed) → Tree 1
indirect_tree b = record { nid = b.token.number; address = b.token.address; slots = map (seen direct_tree) b.entries.slots.items }

abbrev pub double_tree : Branch (Branch (Branch Placed)) → Tree 2
double_tree b = record { nid = b.token.number; address = b.token.address; slots = map (seen indirect_tree) b.entries.slots.items }

abbrev pub tree_of : {B L : Type 0} → FileState B L → FileTree
tree_of f = record {
  inode = f.token.number;
  address = f.token.address;
  kind = f.kind;
  length = f.length;
  slots = map address_of f.tickets.slots.items;
  first_direct = seen direct_tree (entry_at f.direct.slots.items 0);
  second_direct = seen direct_tree (entry_at f.direct.slots.items 1);
  first_indirect = seen indirect_tree (entry_at f.indirect.slots.items 0);
  second_indirect = seen indirect_tree (entry_at f.indirect.slots.items 1);
  double = seen double_tree (entry_at f.double.slots.items 0);
}

-- a node of a file of this inode, with the address of its block
abbrev pub stored_at : ℕ → TreeNode → Stored
stored_at inode n = record { node = node_in inode n; address = n.token.address }

-- an image has each node of a tree, and its entry of the node address table
abbrev pub StoresAll : Image → FileTree → Type 0
StoresAll image file =
    (s : Stored) → Among s (stored_of file)
    → (entry_of image s.node.nid ≡ record { inode = s.node.inode; address = s.address }) × (node_of image s.node.nid ≡ s.node) × (s.address ≢ 0)
