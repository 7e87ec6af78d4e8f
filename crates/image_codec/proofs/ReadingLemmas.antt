-- A reader tests whether a block spells the fields that it reads off it, and spelling is read back: so it finds a node
-- exactly where a decoder answers one, and the same.
use Rattle.std.proofs.Common.{◌≡◌, refl, sym, ◌∙◌, ap, ℕ, zero, suc, ◌+◌, ◌-◌, ◌*◌, ◌^◌, ◌<◌, ◌≤◌, inl, inr, Bool, true, false, cond, ◌&&◌, List, [], ◌∷◌, length, arith}
use Rattle.std.specs.Prelude.{All, ◌==◌, nat_lt, Option, Some, None, IfSome, IfNone}
use Rattle.std.proofs.lemmas.Bool.{eqb-true, ltb-true, and_parts}
use Rattle.std.proofs.lemmas.List.Elements.{All-cons, All-nil}
use Rattle.byteorder.specs.Numbers.{little_from-lt}
use Rattle.geometry.specs.declared.shape.Shape.{Shape}
use Rattle.geometry.specs.Shape.{block_bytes, inode_head}
use Rattle.geometry.specs.Path.{node_entries, inode_entries}
use Rattle.image.specs.declared.image.Node.{Node as NodeValue}
use Rattle.image.specs.Node.{Node, node_bytes, Spells}
use Rattle.image.specs.Image.{no_node}
use Rattle.image.specs.Reading.{number_at, numbers_at, same_bytes, node_fields, is_spelled, read_node}
use Rattle.image.specs.View.{node_view, node_or_none}
use Rattle.image.proofs.NodeRoundTrip.{read_node-spelled}
use Rattle.image_codec.specs.Parts.{SpellsNone, IsDecoded}
use Rattle.image_codec.proofs.NumberLemmas.{AreBytes}

same_bytes-true : (xs ys : List ℕ) → same_bytes xs ys ≡ true → xs ≡ ys
same_bytes-true [] [] h = refl
same_bytes-true [] (y ∷ ys) h = absurd cc
same_bytes-true (x ∷ xs) [] h = absurd cc
same_bytes-true (x ∷ xs) (y ∷ ys) h =
    let both = and_parts (x == y) (same_bytes xs ys) h in
    let first : x ≡ y = eqb-true x y both.0 in
    let rest = same_bytes-true xs ys both.1 in
    cc

number_fits : (bytes : List ℕ) (p : ℕ) → AreBytes bytes → number_at bytes p < 2 ^ 32
number_fits bytes p all = little_from-lt p 4 bytes all

length-numbers_at : (bytes : List ℕ) (p n : ℕ) → length (numbers_at bytes p n) ≡ n
length-numbers_at bytes p zero = refl
length-numbers_at bytes p (suc n) = let rest = length-numbers_at bytes (p + 4) n in omega arith

numbers_fit : (bytes : List ℕ) (p n : ℕ) → AreBytes bytes → All (λ x. x < 2 ^ 32) (numbers_at bytes p n)
numbers_fit bytes p zero all = All-nil (λ x. x < 2 ^ 32)
numbers_fit bytes p (suc n) all = All-cons (λ x. x < 2 ^ 32) (number_at bytes p) (numbers_at bytes (p + 4) n) (number_fits bytes p all) (numbers_fit bytes (p + 4) n all)

-- what the test of a spelling tells
record Tells (shape : Shape) (block : List ℕ) (n : Node) : Type 0 where
  same : block ≡ node_bytes shape n
  class : n.class < 3
  nid : 1 ≤ n.nid
  inode : 1 ≤ n.inode

tells : (shape : Shape) (block : List ℕ) (n : Node) → is_spelled shape block n ≡ true → Tells shape block n
tells shape block n h =
    let first = and_parts (same_bytes block (node_bytes shape n) && nat_lt n.class 3 && nat_lt 0 n.nid) (nat_lt 0 n.inode) h in
    let second = and_parts (same_bytes block (node_bytes shape n) && nat_lt n.class 3) (nat_lt 0 n.nid) first.0 in
    let third = and_parts (same_bytes block (node_bytes shape n)) (nat_lt n.class 3) second.0 in
    record {
      same = same_bytes-true block (node_bytes shape n) third.0;
      class = ltb-true n.class 3 third.1;
      nid = ltb-true 0 n.nid second.1;
      inode = ltb-true 0 n.inode first.1;
    }

-- the fields of a block that pass the test are those of a node that it spells
fields_spelled : (shape : Shape) (block : List ℕ) (class : ℕ) → AreBytes block
    → Tells shape block (node_fields shape block class) → Spells shape block (node_fields shape block class)
fields_spelled shape block zero all t = (
  record {
    nid = (t.nid, number_fits block (block_bytes shape - 24) all);
    inode = (t.inode, number_fits block (block_bytes shape - 20) all);
    class = t.class;
    length = number_fits block 0 all;
    entries = (length-numbers_at block (inode_head shape) (inode_entries shape), length-numbers_at block (inode_head shape + 4 * inode_entries shape) 5);
    addresses = numbers_fit block (inode_head shape) (inode_entries shape) all;
    children = numbers_fit block (inode_head shape + 4 * inode_entries shape) 5 all;
    plain = inl refl;
  },
  t.same,
)
fields_spelled shape block (suc zero) all t = (
  record {
    nid = (t.nid, number_fits block (block_bytes shape - 24) all);
    inode = (t.inode, number_fits block (block_bytes shape - 20) all);
    class = t.class;
    length = omega arith;
    entries = (length-numbers_at block 0 (node_entries shape), refl);
    addresses = numbers_fit block 0 (node_entries shape) all;
    children = All-nil (λ x. x < 2 ^ 32);
    plain = inr (refl, refl);
  },
  t.same,
)
fields_spelled shape block (suc (suc zero)) all t = (
  record {
    nid = (t.nid, number_fits block (block_bytes shape - 24) all);
    inode = (t.inode, number_fits block (block_bytes shape - 20) all);
    class = t.class;
    length = omega arith;
    entries = (refl, length-numbers_at block 0 (node_entries shape));
    addresses = All-nil (λ x. x < 2 ^ 32);
    children = numbers_fit block 0 (node_entries shape) all;
    plain = inr (refl, refl);
  },
  t.same,
)
fields_spelled shape block (suc (suc (suc class))) all t = let low = t.class in absurd (omega arith)

unless : (b : Bool) (x y : Node) → (b ≡ true → ⊥) → cond b x y ≡ y
unless true x y h = absurd (h refl)
unless false x y h = refl

pub read_node-none : (shape : Shape) (block : List ℕ) → AreBytes block → SpellsNone shape block → read_node shape block ≡ no_node
read_node-none shape block all none =
    let class = number_at block (block_bytes shape - 16) in
    unless (is_spelled shape block (node_fields shape block class)) (node_fields shape block class) no_node
    (λ spelled. none (node_fields shape block class) (fields_spelled shape block class all (tells shape block (node_fields shape block class) spelled)))

pub read_node-decoded : (shape : Shape) (block : List ℕ) (found : Option NodeValue) → AreBytes block → IsDecoded shape block found
    → node_or_none found ≡ read_node shape block
read_node-decoded shape block None all none = sym (read_node-none shape block all none)
read_node-decoded shape block (Some node) all spells =
    sym (read_node-spelled shape (node_view node) spells.0) ∙ ap (read_node shape) (sym spells.1)

-- the two sides of what is decoded
pub spells_decoded : (shape : Shape) (block : List ℕ) (found : Option NodeValue) → IsDecoded shape block found
    → IfSome found (λ node. Spells shape block (node_view node))
spells_decoded shape block None none = tt
spells_decoded shape block (Some node) spells = spells

pub none_decoded : (shape : Shape) (block : List ℕ) (found : Option NodeValue) → IsDecoded shape block found → IfNone found (SpellsNone shape block)
none_decoded shape block None none = none
none_decoded shape block (Some node) spells = tt
