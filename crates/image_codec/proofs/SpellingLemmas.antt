-- Each part of a block has the length that its class gives, so a block has one front and one tail only: where its parts
-- spell, so does it, and where one of them can't, no node is spelled.
use Rattle.std.proofs.Common.{◌≡◌, refl, sym, ◌∙◌, ap, ℕ, zero, suc, ◌+◌, ◌-◌, ◌^◌, ◌<◌, ◌≤◌, inr, inl, List, [], ◌∷◌, ◌++◌, length, take, drop, replicate, length-append, append_assoc, arith}
use Rattle.std.specs.Prelude.{All}
use Rattle.std.proofs.lemmas.List.{append-nil, drop_at, length-replicate, take_at}
use Rattle.std.proofs.lemmas.List.Elements.{All-nil}
use Rattle.byteorder.specs.Endian.{little_number}
use Rattle.byteorder.specs.Numbers.{little_number-reads_back}
use Rattle.geometry.specs.declared.shape.Shape.{Shape}
use Rattle.geometry.specs.declared.kind.Kind.{Kind}
use Rattle.geometry.specs.declared.kind.Kind.TheVariants.{File}
use Rattle.geometry.specs.Shape.{block_bytes, inode_head}
use Rattle.geometry.specs.Path.{inode_entries}
use Rattle.image.specs.Node.{Node, numbers, head_bytes, node_bytes, HasEntries, IsNode, Spells}
use Rattle.image.proofs.Shapes.{IsShape, is_shape}
use Rattle.image.proofs.RoundTrip.{length-numbers}
use Rattle.image_codec.specs.Parts.{head_of, tail_of, SpellsNone, SpellsNoHead, SpellsNoTail}

-- what stands before the tail
abbrev pub front_of : Shape → Node → List ℕ
front_of shape n = head_bytes shape n n.class ++ numbers n.addresses ++ numbers n.children

pub node_bytes-parts : (shape : Shape) (n : Node) → node_bytes shape n ≡ front_of shape n ++ tail_of n.nid n.inode n.class
unfolding tail_of
node_bytes-parts shape n = append_assoc (front_of shape n) (numbers (n.nid ∷ n.inode ∷ n.class ∷ [])) (replicate 12 0)

pub length-head_of : (size number : ℕ) (kind : Kind) → 5 ≤ size → length (head_of size number kind) ≡ size
unfolding head_of
length-head_of size number kind h =
    omega (arith, length-replicate {A = ℕ} (size - 5) 0)

pub length-tail_of : (nid inode class : ℕ) → length (tail_of nid inode class) ≡ 24
unfolding tail_of
length-tail_of nid inode class = refl

length-head_bytes : (shape : Shape) (n : Node) → IsShape shape → length (head_bytes shape n zero) ≡ inode_head shape
unfolding head_of
length-head_bytes shape n is = length-head_of (inode_head shape) n.length n.kind is.head

front_length : (shape : Shape) (n : Node) (class : ℕ) → IsShape shape → class < 3 → HasEntries shape n class
    → length (head_bytes shape n class ++ numbers n.addresses ++ numbers n.children) + 24 ≡ block_bytes shape
front_length shape n zero is low has =
    let a = length-numbers n.addresses in let c = length-numbers n.children in let h = length-head_bytes shape n is in let i = is.inode in
    let x = has.0 in let y = has.1 in
    simp (length-append) (omega arith)
front_length shape n (suc zero) is low has =
    let a = length-numbers n.addresses in let i = is.node in let x = has.0 in
    rw (has.1) (simp (length-append) (omega arith))
front_length shape n (suc (suc zero)) is low has =
    let c = length-numbers n.children in let i = is.node in let y = has.1 in
    rw (has.0) (simp (length-append) (omega arith))
front_length shape n (suc (suc (suc class))) is low has = absurd (omega arith)

pub length-front_of : (shape : Shape) (n : Node) → IsNode shape n → length (front_of shape n) + 24 ≡ block_bytes shape
length-front_of shape n node = front_length shape n n.class (is_shape shape) node.class node.entries

pub length-node_bytes : (shape : Shape) (n : Node) → IsNode shape n → length (node_bytes shape n) ≡ block_bytes shape
length-node_bytes shape n node =
    ap length (node_bytes-parts shape n) ∙ length-append (front_of shape n) (tail_of n.nid n.inode n.class)
    ∙ ap (λ (k : ℕ). length (front_of shape n) + k) (length-tail_of n.nid n.inode n.class) ∙ length-front_of shape n node

-- two lists that are joined from as long parts
pub same_parts : (a b c d : List ℕ) → length a ≡ length c → a ++ b ≡ c ++ d → (a ≡ c) × (b ≡ d)
same_parts a b c d long same = (
  sym (take_at a b (length c) long) ∙ ap (take (length c)) same ∙ take_at c d (length c) refl,
  sym (drop_at a b (length c) long) ∙ ap (drop (length c)) same ∙ drop_at c d (length c) refl,
)

-- what stands in a block that spells a node
pub spelled_parts : (shape : Shape) (front tail : List ℕ) (n : Node) → length front + 24 ≡ block_bytes shape
    → Spells shape (front ++ tail) n → (front ≡ front_of shape n) × (tail ≡ tail_of n.nid n.inode n.class)
spelled_parts shape front tail n long spells =
    let whole = length-front_of shape n spells.0 in
    same_parts front tail (front_of shape n) (tail_of n.nid n.inode n.class) (omega arith) (spells.1 ∙ node_bytes-parts shape n)

-- a tail tells the class
tail_of-class : (a b c x y z : ℕ) → c < 2 ^ 32 → z < 2 ^ 32 → tail_of a b c ≡ tail_of x y z → c ≡ z
unfolding tail_of
tail_of-class a b c x y z p q same =
    sym (little_number-reads_back 4 c (replicate 12 0) p) ∙ ap (λ (bytes : List ℕ). little_number 4 (drop 8 bytes)) same
    ∙ little_number-reads_back 4 z (replicate 12 0) q

-- a block of another length
pub none_of_other_length : (shape : Shape) (block : List ℕ) → ¬ (length block ≡ block_bytes shape) → SpellsNone shape block
none_of_other_length shape block other n spells = other (ap length spells.1 ∙ length-node_bytes shape n spells.0)

-- a block with another tail
pub none_of_tail : (shape : Shape) (front tail : List ℕ) → length front + 24 ≡ block_bytes shape → SpellsNoTail tail → SpellsNone shape (front ++ tail)
none_of_tail shape front tail long other n spells =
    let node = spells.0 in
    other n.nid n.inode n.class node.nid.0 node.nid.1 node.inode.0 node.inode.1 (spelled_parts shape front tail n long spells).1

-- a block with another class
pub none_of_class : (shape : Shape) (front : List ℕ) (nid inode class : ℕ) → class < 2 ^ 32
    → length front + 24 ≡ block_bytes shape → 3 ≤ class → SpellsNone shape (front ++ tail_of nid inode class)
none_of_class shape front nid inode class small long high n spells =
    let node = spells.0 in
    let low = node.class in
    let same = tail_of-class nid inode class n.nid n.inode n.class small (omega arith)
    (spelled_parts shape front (tail_of nid inode class) n long spells).1 in
    absurd (omega arith)

-- an inode's block with another head
pub none_of_head : (shape : Shape) (head entries : List ℕ) (nid inode class : ℕ) → class ≡ 0
    → length head ≡ inode_head shape → length (head ++ entries) + 24 ≡ block_bytes shape → SpellsNoHead head
    → SpellsNone shape (head ++ entries ++ tail_of nid inode class)
unfolding head_of
none_of_head shape head entries nid inode class first size long other n spells =
    let node = spells.0 in
    let low = node.class in
    let parts = spelled_parts shape (head ++ entries) (tail_of nid inode class) n long spells in
    let same : class ≡ n.class = tail_of-class nid inode class n.nid n.inode n.class (omega arith) (omega arith) parts.1 in
    let zeroth : n.class ≡ 0 = omega arith in
    let front : head ++ entries ≡ head_of (inode_head shape) n.length n.kind ++ (numbers n.addresses ++ numbers n.children)
    = parts.0 ∙ ap (λ (k : ℕ). head_bytes shape n k ++ numbers n.addresses ++ numbers n.children) zeroth
    ∙ append_assoc (head_of (inode_head shape) n.length n.kind) (numbers n.addresses) (numbers n.children) in
    let is = is_shape shape in
    let as_long = length-head_of (inode_head shape) n.length n.kind is.head in
    other n.length n.kind
    ((same_parts head entries _ _ (size ∙ sym as_long) front).0 ∙ ap (λ (k : ℕ). head_of k n.length n.kind) (sym size))

-- a node of these parts
spelled_by : (shape : Shape) (front : List ℕ) (n : Node) → IsNode shape n → front ≡ front_of shape n → Spells shape (front ++ tail_of n.nid n.inode n.class) n
spelled_by shape front n node e =
    (node, ap (λ (f : List ℕ). f ++ tail_of n.nid n.inode n.class) e ∙ sym (node_bytes-parts shape n))

-- a node that is no inode
abbrev lower_node : (nid inode class : ℕ) (addresses children : List ℕ) → Node
lower_node nid inode class addresses children = record { nid = nid; inode = inode; class = class; length = 0; kind = File; addresses = addresses; children = children }

lower_spelled : (shape : Shape) (front : List ℕ) (nid inode class : ℕ) (addresses children : List ℕ) → 1 ≤ nid → nid < 2 ^ 32 → 1 ≤ inode → inode < 2 ^ 32 → class < 3
    → HasEntries shape (lower_node nid inode class addresses children) class → All (λ x. x < 2 ^ 32) addresses → All (λ x. x < 2 ^ 32) children
    → front ≡ front_of shape (lower_node nid inode class addresses children) → Spells shape (front ++ tail_of nid inode class) (lower_node nid inode class addresses children)
lower_spelled shape front nid inode class addresses children p q r s low entries all below is =
    spelled_by shape front (lower_node nid inode class addresses children)
    (record { nid = (p, q); inode = (r, s); class = low; length = omega arith; entries = entries; addresses = all; children = below; plain = inr (refl, refl) }) is

pub direct_spelled : (shape : Shape) (front xs : List ℕ) (nid inode : ℕ) → 1 ≤ nid → nid < 2 ^ 32 → 1 ≤ inode → inode < 2 ^ 32
    → length front + 24 ≡ block_bytes shape → All (λ x. x < 2 ^ 32) xs → numbers xs ≡ front
    → Spells shape (front ++ tail_of nid inode 1)
    (record { nid = nid; inode = inode; class = 1; length = 0; kind = File; addresses = xs; children = [] })
direct_spelled shape front xs nid inode p q r s long all is =
    let shaped = is_shape shape in let four = length-numbers xs in let same = ap length is in let size = shaped.node in
    lower_spelled shape front nid inode 1 xs [] p q r s (omega arith) (omega arith, refl) all (All-nil (λ x. x < 2 ^ 32)) (sym is ∙ sym (append-nil (numbers xs)))

pub indirect_spelled : (shape : Shape) (front xs : List ℕ) (nid inode : ℕ) → 1 ≤ nid → nid < 2 ^ 32 → 1 ≤ inode → inode < 2 ^ 32
    → length front + 24 ≡ block_bytes shape → All (λ x. x < 2 ^ 32) xs → numbers xs ≡ front
    → Spells shape (front ++ tail_of nid inode 2)
    (record { nid = nid; inode = inode; class = 2; length = 0; kind = File; addresses = []; children = xs })
indirect_spelled shape front xs nid inode p q r s long all is =
    let shaped = is_shape shape in let four = length-numbers xs in let same = ap length is in let size = shaped.node in
    lower_spelled shape front nid inode 2 [] xs p q r s (omega arith) (refl, omega arith) (All-nil (λ x. x < 2 ^ 32)) all (sym is)

pub inode_spelled : (shape : Shape) (front head : List ℕ) (size : ℕ) (kind : Kind) (addresses children : List ℕ) (nid inode : ℕ)
    → 1 ≤ nid → nid < 2 ^ 32 → 1 ≤ inode → inode < 2 ^ 32 → size < 2 ^ 32
    → front ≡ head ++ numbers addresses ++ numbers children
    → length head ≡ inode_head shape → head ≡ head_of (length head) size kind
    → All (λ x. x < 2 ^ 32) addresses → length addresses ≡ inode_entries shape
    → All (λ x. x < 2 ^ 32) children → length children ≡ 5
    → Spells shape (front ++ tail_of nid inode 0)
    (record { nid = nid; inode = inode; class = 0; length = size; kind = kind; addresses = addresses; children = children })
unfolding head_of
inode_spelled shape front head size kind addresses children nid inode p q r s low whole long is all many all_children five =
    spelled_by shape front _
    (record {
      nid = (p, q);
      inode = (r, s);
      class = omega arith;
      length = low;
      entries = (many, five);
      addresses = all;
      children = all_children;
      plain = inl refl;
    })
    (whole ∙ ap (λ (h : List ℕ). h ++ numbers addresses ++ numbers children) (is ∙ ap (λ (k : ℕ). head_of k size kind) long))
