-- In an image in range each list has its full length, so a number finds the entry, node or summary at its place less
-- one; so no address or slot is out of the room for it.
use Rattle.std.proofs.Common.{◌≡◌, refl, sym, subst, ap, ℕ, zero, suc, ◌+◌, ◌-◌, ◌<◌, ◌≤◌, inl, inr, length, get_or, arith}
use Rattle.std.specs.Prelude.{All}
use Rattle.std.proofs.lemmas.Bool.{ne_eqb}
use Rattle.std.proofs.lemmas.Bool.Decides.{leb_tells}
use Rattle.std.proofs.lemmas.List.{get_or_past}
use Rattle.geometry.specs.declared.shape.Shape.{Shape}
use Rattle.geometry.specs.declared.geometry.Geometry.{Geometry}
use Rattle.geometry.specs.Area.{block_count}
use Rattle.geometry.specs.Path.{node_entries}
use Rattle.image.specs.declared.image.NodeEntry.{NodeEntry}
use Rattle.image.specs.Node.{Node, HasEntries}
use Rattle.image.specs.Image.{Image, entry_of, node_of, summary_at, no_entry, no_node, no_summary}
use Rattle.image.specs.Rules.{IsInRange, HasRange}
use Rattle.image.proofs.Shapes.{is_shape}
use Rattle.image_checker.specs.Named.{HasRoom}

pub entry_at : (image : Image) (k : ℕ) → entry_of image (suc k) ≡ get_or image.node_table k no_entry
entry_at image k = let e : suc k - 1 ≡ k = omega arith in rw (ne_eqb (suc k) 0 (λ z. cc), e) refl

pub node_at : (image : Image) (k : ℕ) → node_of image (suc k) ≡ get_or image.nodes k no_node
node_at image k = let e : suc k - 1 ≡ k = omega arith in rw (ne_eqb (suc k) 0 (λ z. cc), e) refl

pub summary_there : (image : Image) (k : ℕ) → summary_at image (suc k) ≡ get_or image.summaries k no_summary
summary_there image k = let e : suc k - 1 ≡ k = omega arith in rw (ne_eqb (suc k) 0 (λ z. cc), e) refl

-- each entry's address is at most the last
entry_low : (geometry : Geometry) (image : Image) (nid : ℕ) → IsInRange geometry image → (entry_of image nid).address < block_count geometry + 1
entry_low geometry image zero sized = omega arith
entry_low geometry image (suc k) sized =
    subst (λ (x : NodeEntry). x.address < block_count geometry + 1) (sym (entry_at image k))
    (elim (leb_tells (suc k) (length image.node_table)) [
      | inl (f, under) ↦ let r = sized.entries k no_entry under in let s = r.1 in omega arith
      | inr (f, over) ↦
          let none : get_or image.node_table k no_entry ≡ no_entry = get_or_past image.node_table k no_entry (omega arith) in
          subst (λ (x : NodeEntry). x.address < block_count geometry + 1) (sym none) (omega arith)
    ])

-- what holds of no node and of each node in range, holds of the node of each number
pub node_has : (P : Node → Type 0) (geometry : Geometry) (image : Image) (nid : ℕ) → IsInRange geometry image → P no_node
    → ((n : Node) → HasRange geometry n → P n) → P (node_of image nid)
node_has P geometry image zero sized none each = none
node_has P geometry image (suc j) sized none each =
    subst P (sym (node_at image j))
    (elim (leb_tells (suc j) (length image.nodes)) [
      | inl (f, under) ↦ each (get_or image.nodes j no_node) (sized.nodes j no_node under)
      | inr (f, over) ↦ subst P (sym (get_or_past image.nodes j no_node (omega arith))) none
    ])

few_of_class : (shape : Shape) (n : Node) (class : ℕ) → HasEntries shape n class
    → (length n.addresses ≤ node_entries shape) × (length n.children ≤ node_entries shape)
few_of_class shape n zero has = let is = is_shape shape in let a = has.0 in let b = has.1 in let f = is.fewer in let g = is.five in (omega arith, omega arith)
few_of_class shape n (suc zero) has = let a = has.0 in let b = ap length has.1 in (omega arith, omega arith)
few_of_class shape n (suc (suc zero)) has = let a = ap length has.0 in let b = has.1 in (omega arith, omega arith)
few_of_class shape n (suc (suc (suc class))) has = let a = ap length has.0 in let b = ap length has.1 in (omega arith, omega arith)

-- no node has more entries than one that has nothing else
pub few_entries : (geometry : Geometry) (image : Image) (nid : ℕ) → IsInRange geometry image
    → (length (node_of image nid).addresses ≤ node_entries geometry.shape) × (length (node_of image nid).children ≤ node_entries geometry.shape)
few_entries geometry image nid sized =
    node_has (λ (n : Node). (length n.addresses ≤ node_entries geometry.shape) × (length n.children ≤ node_entries geometry.shape)) geometry image nid sized
    (omega arith, omega arith) (λ n range. few_of_class geometry.shape n n.class range.entries)

pub has_room : (geometry : Geometry) (image : Image) (size : ℕ) → IsInRange geometry image → size ≡ block_count geometry + 1 → HasRoom image size
has_room geometry image size sized is = record {
  entries = λ nid. (let low = entry_low geometry image nid sized in omega arith);
  addresses = λ nid k d within.
      (let low = node_has (λ (n : Node). All (λ a. a < block_count geometry + 1) n.addresses) geometry image nid sized (λ k d none. absurd (omega arith))
      (λ n range j e under. (let a = range.addresses j e under in omega arith)) k d within in omega arith);
  slots = λ nid. (let few = few_entries geometry image nid sized in let a = few.0 in let most = (is_shape geometry.shape).few in omega arith);
}
