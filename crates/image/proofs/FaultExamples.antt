-- A lawful image of one file and two blocks, and the same bytes with one change each, which breaks the rule that the
-- change is about: so no rule holds of everything.
use Rattle.std.proofs.Common.{◌≡◌, ◌≢◌, refl, ap, ℕ, zero, suc, ◌<◌, true, false, List, [], ◌∷◌, ◌++◌, replicate, set, arith}
use Rattle.std.specs.Prelude.{Some, None, Contains, ◌==◌, if◌then◌else◌}
use Rattle.geometry.specs.declared.owner.Mark.{Mark}
use Rattle.geometry.specs.declared.owner.Summary.{Summary}
use Rattle.geometry.specs.declared.shape.Shape.TheVariants.{Tiny}
use Rattle.image.specs.Node.{Node, node_bytes}
use Rattle.image.specs.Image.{Image, no_entry, no_node, no_summary}
use Rattle.geometry.specs.declared.owner.Owner.TheVariants.{Node as OfNode, Data}
use Rattle.geometry.specs.declared.kind.Kind.TheVariants.{File}
use Rattle.geometry.specs.Summary.{summary_of}
use Rattle.image.specs.Rules.{Rule, IsLawful}
use Rattle.image.specs.Reading.{image_in}
use Rattle.image.specs.Pack.{pack_body}
use Rattle.image.proofs.Examples.{small, plain_segment, segment_with_first}
use Rattle.image.proofs.Testing.{lawful_by_tests}

unfoldable pub two_inode : Node
two_inode = record { nid = 1; inode = 1; class = 0; length = 2; kind = File; addresses = 33 ∷ 34 ∷ 0 ∷ []; children = replicate 5 0 }

unfoldable pub two_blocks : Image
two_blocks = record {
  version = 2;
  total = 3;
  logs = Some (record { segment = 0; next = 0 }) ∷ Some (record { segment = 1; next = 1 }) ∷ Some (record { segment = 2; next = 0 })
      ∷ Some (record { segment = 3; next = 0 }) ∷ Some (record { segment = 4; next = 2 }) ∷ Some (record { segment = 5; next = 0 }) ∷ [];
  node_table = record { inode = 1; address = 9 } ∷ replicate 63 no_entry;
  segments = plain_segment ∷ segment_with_first ∷ plain_segment ∷ plain_segment
      ∷ record { count = 2; mtime = 0; bits = true ∷ true ∷ replicate 6 false } ∷ replicate 27 plain_segment;
  summaries = replicate 8 no_summary ++ summary_of (OfNode 1) ∷ (replicate 23 no_summary ++ summary_of (Data 1 0) ∷ summary_of (Data 1 1) ∷ replicate 222 no_summary);
  nodes = two_inode ∷ replicate 63 no_node;
}

unfoldable pub base : List ℕ
base = pack_body Tiny two_blocks

unfoldable pub inode_bytes : List ℕ
inode_bytes = node_bytes Tiny two_inode

-- the image of a body, with these bytes in the inode's block
unfoldable pub changed_image : List ℕ → List ℕ → Image
changed_image body inode = image_in small body (λ address. (if address == 9 then inode else replicate 64 0))

two_blocks_are_lawful : IsLawful small two_blocks
unfolding small two_blocks two_inode plain_segment segment_with_first
two_blocks_are_lawful = lawful_by_tests small two_blocks (record {
  version = refl;
  logs = refl;
  places = refl;
  table = refl;
  entries = refl;
  segments = refl;
  bits = refl;
  summaries = refl;
  as_many = refl;
  nodes = refl;
  owned = refl;
  apart = refl;
  holds = refl;
  fit = refl;
  met = refl;
  distinct = refl;
  named = refl;
  marked = refl;
  owners = refl;
  unmarked = refl;
  counts = refl;
  total = refl;
  free_places = refl;
  lengths = refl;
})

-- log 0 in segment 32 of 32
log_out_of_range : ¬ Rule small (changed_image (set base 8 0x20) inode_bytes) 1
unfolding small two_blocks two_inode plain_segment segment_with_first base inode_bytes changed_image image_in
log_out_of_range kept = let first = kept.places 0 None (omega arith) in let low : 32 < 32 = first.0 in omega arith

-- node 2 has an inode number and no address
half_an_entry : ¬ Rule small (changed_image (set base 64 1) inode_bytes) 1
unfolding small two_blocks two_inode plain_segment segment_with_first base inode_bytes changed_image image_in
half_an_entry kept = let half = (kept.entries 1 no_entry (omega arith)).2 in let none : ◌≡◌ {A = ℕ} 1 0 = half.1 refl in omega arith

-- node 5 is no number of the table
unowned_node : ¬ Rule small (record two_blocks { nodes = two_inode ∷ (replicate 3 no_node ++ record no_node { nid = 5 } ∷ replicate 59 no_node) }) 1
unfolding small two_blocks two_inode plain_segment segment_with_first
unowned_node kept = let is : ◌≡◌ {A = ℕ} 5 0 = ap (λ (n : Node). n.nid) (kept.owned 5 (omega arith) refl) in omega arith

-- logs 0 and 1 in segment 1
logs_collide : ¬ Rule small (changed_image (set base 8 1) inode_bytes) 2
unfolding small two_blocks two_inode plain_segment segment_with_first base inode_bytes changed_image image_in
logs_collide kept = kept 0 1 None (omega arith) (omega arith) refl

-- the inode's block says node 2
wrong_node : ¬ Rule small (changed_image base (set inode_bytes 40 2)) 3
unfolding small two_blocks two_inode plain_segment segment_with_first base inode_bytes changed_image image_in
wrong_node kept = let is : ◌≡◌ {A = ℕ} 2 1 = (kept 1 (omega arith) refl).number in omega arith

-- the inode's first direct node is node 5, which has no entry
entry_without_node : ¬ Rule small (changed_image base (set inode_bytes 20 5)) 4
unfolding small two_blocks two_inode plain_segment segment_with_first base inode_bytes changed_image image_in
entry_without_node kept = let none = kept 0 0 (omega arith) in absurd cc

none_of_names : (m n o w : Mark) → m.address ≢ w.address → n.address ≢ w.address → o.address ≢ w.address → Contains (m ∷ n ∷ o ∷ []) w → ⊥
none_of_names m n o w p q r (zero, within, is) = p (ap (λ (x : Mark). x.address) is)
none_of_names m n o w p q r (suc zero, within, is) = q (ap (λ (x : Mark). x.address) is)
none_of_names m n o w p q r (suc (suc zero), within, is) = r (ap (λ (x : Mark). x.address) is)
none_of_names m n o w p q r (suc (suc (suc k)), within, is) = omega arith

-- node 5, a direct node of inode 1 at address 10, stands in the table, and no entry names it
stray_body : List ℕ
stray_body = set (set base 88 1) 92 10

stray_block : List ℕ
stray_block = set (set (set (replicate 64 0) 40 5) 44 1) 48 1

never_met : ¬ Rule small (image_in small stray_body (λ address. (if address == 9 then inode_bytes else (if address == 10 then stray_block else replicate 64 0)))) 5
unfolding small two_blocks two_inode plain_segment segment_with_first base inode_bytes image_in stray_body stray_block
never_met kept = none_of_names _ _ _ _ (λ e. omega arith) (λ e. omega arith) (λ e. omega arith) (kept 5 (omega arith) refl)

-- the second block's address is the first's
named_twice : ¬ Rule small (changed_image base (set inode_bytes 12 33)) 6
unfolding small two_blocks two_inode plain_segment segment_with_first base inode_bytes changed_image image_in
named_twice kept = kept 1 2 (record { address = 0; owner = OfNode 0 }) (omega arith) (omega arith) refl

-- the first block is not marked
not_marked : ¬ Rule small (changed_image (set base 632 2) inode_bytes) 7
unfolding small two_blocks two_inode plain_segment segment_with_first base inode_bytes changed_image image_in
not_marked kept = let marked : false ≡ true = kept 1 (record { address = 0; owner = OfNode 0 }) (omega arith) in absurd cc

none_of_three : (a : ℕ) → 9 ≢ a → 33 ≢ a → 34 ≢ a → Contains (9 ∷ 33 ∷ 34 ∷ []) a → ⊥
none_of_three a p q r (zero, within, is) = p is
none_of_three a p q r (suc zero, within, is) = q is
none_of_three a p q r (suc (suc zero), within, is) = r is
none_of_three a p q r (suc (suc (suc k)), within, is) = omega arith

-- a third block is marked
marked_without_name : ¬ Rule small (changed_image (set base 632 7) inode_bytes) 8
unfolding small two_blocks two_inode plain_segment segment_with_first base inode_bytes changed_image image_in
marked_without_name kept = none_of_three 35 (λ e. omega arith) (λ e. omega arith) (λ e. omega arith) (kept 35 refl)

-- the first block's summary has slot 1
wrong_summary : ¬ Rule small (changed_image (set base 1244 1) inode_bytes) 9
unfolding small two_blocks two_inode plain_segment segment_with_first base inode_bytes changed_image image_in
wrong_summary kept = let is = kept.named 1 (record { address = 0; owner = OfNode 0 }) (omega arith) in let slot : ◌≡◌ {A = ℕ} 1 0 = ap (λ (o : Summary). o.slot) is in omega arith

-- a count is one too low
wrong_count : ¬ Rule small (changed_image (set base 620 1) inode_bytes) 10
unfolding small two_blocks two_inode plain_segment segment_with_first base inode_bytes changed_image image_in
wrong_count kept = let is : ◌≡◌ {A = ℕ} 1 2 = kept.counts 4 plain_segment (omega arith) in omega arith
