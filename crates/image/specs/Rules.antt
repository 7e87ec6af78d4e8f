-- The ten rules of an image, in the order in which a check tests them. An image is lawful if it keeps all; its fault
-- is the first that it breaks. (Linux filesystems/f2fs says what each table records; the list of rules is this project's own.)
use Rattle.std.specs.Prelude.{◌≡◌, ◌≢◌, ◌<◌, ◌≤◌, ◌⊎◌, ◌↔◌, ℕ, zero, suc, IsTrue, List, [], length, map, sum_by, count_by, Option, Some, None, IfSome, All, AllPairs, Contains, ⊤}
use Rattle.geometry.specs.declared.geometry.Geometry.{Geometry}
use Rattle.geometry.specs.declared.owner.Mark.{Mark}
use Rattle.geometry.specs.Shape.{segment_blocks}
use Rattle.geometry.specs.Path.{largest_length}
use Rattle.geometry.specs.Address.{address_of}
use Rattle.geometry.specs.Area.{block_count}
use Rattle.geometry.specs.Summary.{summary_of}
use Rattle.image.specs.declared.image.NodeEntry.{NodeEntry}
use Rattle.image.specs.declared.image.LogHead.{LogHead}
use Rattle.image.specs.Node.{Node, HasEntries, IsPlain}
use Rattle.image.specs.Image.{Image, no_summary, no_node, entry_of, node_of, is_marked, summary_at}
use Rattle.image.specs.Walk.{names, node_name, inodes, is_taken, misfits}
use Rattle.image.specs.Files.{data_address}

abbrev pub IsPlace : Geometry → LogHead → Type 0
IsPlace geometry place = (place.segment < geometry.segments) × (place.next < segment_blocks geometry.shape)

-- both numbers are in range, and either both are 0 or neither is
abbrev pub IsEntry : Geometry → NodeEntry → Type 0
IsEntry geometry entry = (entry.inode ≤ geometry.nodes) × (entry.address ≤ block_count geometry) × ((entry.inode ≡ 0) ↔ (entry.address ≡ 0))

pub record HasRange (geometry : Geometry) (node : Node) : Type 0 where
  pub inode : node.inode ≤ geometry.nodes
  pub entries : HasEntries geometry.shape node node.class
  pub addresses : All (λ a. a ≤ block_count geometry) node.addresses
  pub children : All (λ k. k ≤ geometry.nodes) node.children
  pub length : node.length ≤ largest_length geometry.shape
  pub plain : IsPlain node

-- a number without an entry has no node
abbrev pub NodesHaveEntries : Geometry → Image → Type 0
NodesHaveEntries geometry image = (nid : ℕ) → nid ≤ geometry.nodes → (entry_of image nid).address ≡ 0 → node_of image nid ≡ no_node

-- 1: tables and nodes of the right length, each number in its range, no half of an entry, and no node without one
pub record IsInRange (geometry : Geometry) (image : Image) : Type 0 where
  pub version : 1 ≤ image.version
  pub logs : length image.logs ≡ 6
  pub places : All (λ log. IfSome log (IsPlace geometry)) image.logs
  pub table : length image.node_table ≡ geometry.nodes
  pub entries : All (IsEntry geometry) image.node_table
  pub segments : length image.segments ≡ geometry.segments
  pub bits : All (λ s. length s.bits ≡ segment_blocks geometry.shape) image.segments
  pub summaries : length image.summaries ≡ block_count geometry
  pub as_many : length image.nodes ≡ geometry.nodes
  pub nodes : All (HasRange geometry) image.nodes
  pub owned : NodesHaveEntries geometry image

-- 2: no two logs name one segment
abbrev pub AreApart : Option LogHead → Option LogHead → Type 0
AreApart (Some p) (Some q) = p.segment ≢ q.segment
AreApart (Some p) None = ⊤
AreApart None q = ⊤

abbrev pub LogsAreApart : Geometry → Image → Type 0
LogsAreApart geometry image = AllPairs AreApart image.logs

-- 3: the block of each entry is a node of that number and inode; inodes, and they alone, have the numbers up to that of the files
pub record IsNodeOf (geometry : Geometry) (image : Image) (nid : ℕ) : Type 0 where
  pub number : (node_of image nid).nid ≡ nid
  pub belongs : (node_of image nid).inode ≡ (entry_of image nid).inode
  pub class : (node_of image nid).class < 3
  pub low : nid ≤ geometry.files → ((node_of image nid).class ≡ 0) × ((node_of image nid).inode ≡ nid)
  pub high : geometry.files < nid → (node_of image nid).class ≢ 0

abbrev pub TableHoldsNodes : Geometry → Image → Type 0
TableHoldsNodes geometry image = (nid : ℕ) → nid ≤ geometry.nodes → IsTrue (is_taken image nid) → IsNodeOf geometry image nid

-- 4: each node number that a walk meets fits its place
abbrev pub NodesFit : Geometry → Image → Type 0
NodesFit geometry image = All (λ inode. misfits image inode ≡ []) (inodes geometry image)

-- 5: the block of each node of the table is named by a walk
abbrev pub NodesAreMet : Geometry → Image → Type 0
NodesAreMet geometry image =
    (nid : ℕ) → nid ≤ geometry.nodes → IsTrue (is_taken image nid) → Contains (names geometry image) (node_name image nid)

-- 6: no address is named twice
abbrev pub HaveOwnAddresses : List Mark → Type 0
HaveOwnAddresses ns = AllPairs (λ (m n : Mark). m.address ≢ n.address) ns

abbrev pub NamesAreDistinct : Geometry → Image → Type 0
NamesAreDistinct geometry image = HaveOwnAddresses (names geometry image)

-- 7: a named address is marked
abbrev pub NamedIsMarked : Geometry → Image → Type 0
NamedIsMarked geometry image = All (λ (n : Mark). IsTrue (is_marked geometry image n.address)) (names geometry image)

-- 8: a marked address is named
abbrev pub MarkedIsNamed : Geometry → Image → Type 0
MarkedIsNamed geometry image =
    (address : ℕ) → IsTrue (is_marked geometry image address)
    → Contains (map (λ (n : Mark). n.address) (names geometry image)) address

-- 9: the summary of a named address tells its owner, and an unmarked address has none
pub record SummariesTellOwners (geometry : Geometry) (image : Image) : Type 0 where
  pub named : All (λ (n : Mark). summary_at image n.address ≡ summary_of n.owner) (names geometry image)
  pub unmarked : (address : ℕ) → IsTrue (is_marked geometry image address) ⊎ (summary_at image address ≡ no_summary)

-- 10: counts, total, logs and lengths agree with the marks and the entries
pub record NumbersAgree (geometry : Geometry) (image : Image) : Type 0 where
  pub counts : All (λ s. s.count ≡ count_by (λ bit. bit) s.bits) image.segments
  pub total : image.total ≡ sum_by (λ s. s.count) image.segments
  pub logs : All (λ log. IfSome log (λ place. (offset : ℕ) → place.next ≤ offset → offset < segment_blocks geometry.shape
      → ¬ IsTrue (is_marked geometry image (address_of geometry.shape place.segment offset)))) image.logs
  pub lengths : All (λ inode. (index : ℕ) → data_address geometry.shape image inode index ≢ 0 → index < (node_of image inode).length)
      (inodes geometry image)

-- the k-th rule
abbrev pub Rule : Geometry → Image → ℕ → Type 0
Rule geometry image (suc zero) = IsInRange geometry image
Rule geometry image (suc (suc zero)) = LogsAreApart geometry image
Rule geometry image (suc (suc (suc zero))) = TableHoldsNodes geometry image
Rule geometry image (suc (suc (suc (suc zero)))) = NodesFit geometry image
Rule geometry image (suc (suc (suc (suc (suc zero))))) = NodesAreMet geometry image
Rule geometry image (suc (suc (suc (suc (suc (suc zero)))))) = NamesAreDistinct geometry image
Rule geometry image (suc (suc (suc (suc (suc (suc (suc zero))))))) = NamedIsMarked geometry image
Rule geometry image (suc (suc (suc (suc (suc (suc (suc (suc zero)))))))) = MarkedIsNamed geometry image
Rule geometry image (suc (suc (suc (suc (suc (suc (suc (suc (suc zero))))))))) = SummariesTellOwners geometry image
Rule geometry image (suc (suc (suc (suc (suc (suc (suc (suc (suc (suc zero)))))))))) = NumbersAgree geometry image
Rule geometry image k = ⊤

abbrev pub IsLawful : Geometry → Image → Type 0
IsLawful geometry image = (k : ℕ) → 1 ≤ k → k ≤ 10 → Rule geometry image k

-- the first rule that the image breaks
pub record IsLeastFault (geometry : Geometry) (image : Image) (k : ℕ) : Type 0 where
  pub range : (1 ≤ k) × (k ≤ 10)
  pub broken : ¬ Rule geometry image k
  pub kept : (j : ℕ) → 1 ≤ j → j < k → Rule geometry image j
