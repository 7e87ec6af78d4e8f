-- The nodes of an index tree, and the one block of bytes that spells each (Linux filesystems/f2fs, node structure; how the bytes lie is this project's own).
use Rattle.std.specs.Prelude.{◌≡◌, ◌<◌, ◌≤◌, ◌⊎◌, ℕ, zero, suc, ◌-◌, ◌^◌, List, [], ◌∷◌, ◌++◌, length, replicate, All}
use Rattle.std.specs.List.{flat_map}
use Rattle.byteorder.specs.Endian.{little_bytes}
use Rattle.geometry.specs.declared.shape.Shape.{Shape}
use Rattle.geometry.specs.declared.kind.Kind.{Kind}
use Rattle.geometry.specs.declared.kind.Kind.TheVariants.{File, Dir, Media}
use Rattle.geometry.specs.Shape.{inode_head}
use Rattle.geometry.specs.Path.{node_entries, inode_entries}

-- A node: its number, the inode of its file, and its class: 0 an inode, 1 a direct node, 2 an indirect node. An inode has
-- data addresses and children, a direct node the first alone, an indirect node the second alone. An entry of 0 names
-- nothing. Length and kind are the file's, and stand in its inode.
pub record Node : Type 0 where
  pub nid : ℕ
  pub inode : ℕ
  pub class : ℕ
  pub length : ℕ
  pub kind : Kind
  pub addresses : List ℕ
  pub children : List ℕ

-- 32 bits each, the lowest byte first
abbrev pub numbers : List ℕ → List ℕ
numbers xs = flat_map (λ x. little_bytes 4 x) xs

abbrev pub kind_code : Kind → ℕ
kind_code File = 0
kind_code Dir = 1
kind_code Media = 2

-- what an inode has before its addresses; other nodes have nothing there
abbrev pub head_bytes : Shape → Node → ℕ → List ℕ
head_bytes shape node zero = little_bytes 4 node.length ++ kind_code node.kind ∷ replicate (inode_head shape - 5) 0
head_bytes shape node (suc class) = []

-- the head, the entries, and the tail that says which node it is
abbrev pub node_bytes : Shape → Node → List ℕ
node_bytes shape node =
    head_bytes shape node node.class ++ numbers node.addresses ++ numbers node.children
    ++ numbers (node.nid ∷ node.inode ∷ node.class ∷ []) ++ replicate 12 0

-- how many addresses and children a node of each class has; what is of no class has none
abbrev pub HasEntries : Shape → Node → ℕ → Type 0
HasEntries shape node zero = (length node.addresses ≡ inode_entries shape) × (length node.children ≡ 5)
HasEntries shape node (suc zero) = (length node.addresses ≡ node_entries shape) × (node.children ≡ [])
HasEntries shape node (suc (suc zero)) = (node.addresses ≡ []) × (length node.children ≡ node_entries shape)
HasEntries shape node (suc (suc (suc class))) = (node.addresses ≡ []) × (node.children ≡ [])

-- a file's length and kind stand in its inode alone
abbrev pub IsPlain : Node → Type 0
IsPlain node = (node.class ≡ 0) ⊎ ((node.length ≡ 0) × (node.kind ≡ File))

-- a node that has a spelling
pub record IsNode (shape : Shape) (node : Node) : Type 0 where
  pub nid : (1 ≤ node.nid) × (node.nid < 2 ^ 32)
  pub inode : (1 ≤ node.inode) × (node.inode < 2 ^ 32)
  pub class : node.class < 3
  pub length : node.length < 2 ^ 32
  pub entries : HasEntries shape node node.class
  pub addresses : All (λ a. a < 2 ^ 32) node.addresses
  pub children : All (λ k. k < 2 ^ 32) node.children
  pub plain : IsPlain node

-- a block spells this node
abbrev pub Spells : Shape → List ℕ → Node → Type 0
Spells shape block node = IsNode shape node × (block ≡ node_bytes shape node)
