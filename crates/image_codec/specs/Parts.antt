-- The parts of a node's block, and what a decoder of blocks answers (Linux filesystems/f2fs, node structure; how the bytes lie is this project's own).
use Rattle.std.specs.Prelude.{◌≢◌, ℕ, ◌-◌, ◌<◌, ◌≤◌, ◌^◌, List, [], ◌∷◌, ◌++◌, length, replicate, Option, MatchOption}
use Rattle.byteorder.specs.Endian.{little_bytes}
use Rattle.geometry.specs.declared.shape.Shape.{Shape}
use Rattle.geometry.specs.declared.kind.Kind.{Kind}
use Rattle.image.specs.declared.image.Node.{Node as NodeValue}
use Rattle.image.specs.Node.{Node, Spells, numbers, kind_code}
use Rattle.image.specs.View.{node_view}
use Rattle.geometry.specs.declared.class.Class.{Class}
use Rattle.geometry.specs.Class.{class_code}

-- what an inode has before its addresses, in so many bytes
unfoldable pub head_of : ℕ → ℕ → Kind → List ℕ
head_of size length kind = little_bytes 4 length ++ kind_code kind ∷ replicate (size - 5) 0

-- what stands at the end of each node: its number, its file's inode, its class, and zeros
unfoldable pub tail_of : ℕ → ℕ → ℕ → List ℕ
tail_of nid inode class = numbers (nid ∷ inode ∷ class ∷ []) ++ replicate 12 0

-- the node of these fields
abbrev pub lent_node : ℕ → ℕ → Class → ℕ → Kind → List ℕ → List ℕ → Node
lent_node nid inode class length kind addresses children = record {
  nid = nid;
  inode = inode;
  class = class_code class;
  length = length;
  kind = kind;
  addresses = addresses;
  children = children;
}

-- no node has this block
abbrev pub SpellsNone : Shape → List ℕ → Type 0
SpellsNone shape block = (node : Node) → ¬ Spells shape block node

-- no inode has these bytes before its addresses
abbrev pub SpellsNoHead : List ℕ → Type 0
SpellsNoHead bytes = (size : ℕ) (kind : Kind) → bytes ≢ head_of (length bytes) size kind

-- no node has these bytes at its end
abbrev pub SpellsNoTail : List ℕ → Type 0
SpellsNoTail bytes =
    (nid inode class : ℕ) → 1 ≤ nid → nid < 2 ^ 32 → 1 ≤ inode → inode < 2 ^ 32 → bytes ≢ tail_of nid inode class

-- the node of this block, or none where no node has it
abbrev pub IsDecoded : Shape → List ℕ → Option NodeValue → Type 0
IsDecoded shape block found = MatchOption found (SpellsNone shape block) (λ node. Spells shape block (node_view node))
