-- What is said of a program's lists, of the lists that they are seen as.
use Rattle.std.proofs.Common.{◌≡◌, ◌≤◌, ◌∙◌, subst, List, length, map, arith}
use Rattle.std.specs.Prelude.{Option, All, IfSome}
use Rattle.std.proofs.lemmas.List.{get_or-map, length-map}
use Rattle.std.proofs.lemmas.List.Elements.{All-map}
use Rattle.geometry.specs.declared.geometry.Geometry.{Geometry}
use Rattle.geometry.specs.Area.{block_count}
use Rattle.geometry.specs.Shape.{segment_blocks}
use Rattle.image.specs.declared.image.Node.{Node as NodeValue}
use Rattle.image.specs.declared.image.SegmentInfo.{SegmentInfo as SegmentValue}
use Rattle.image.specs.declared.image.Image.{Image as ImageValue}
use Rattle.image.specs.Image.{SegmentInfo}
use Rattle.image.specs.Rules.{IsPlace, IsEntry, HasRange, NodesHaveEntries, IsInRange}
use Rattle.image.specs.View.{image_view, info_view, node_or_none}

pub all_unmap : {X : Type 0} (P : X → Type 0) → {Y : Type 0} (f : Y → X) (ys : List Y) → All P (map f ys) → All (λ y. P (f y)) ys
all_unmap P f ys all k d low = subst P (get_or-map f ys k d (f d) low) (all k (f d) (let e = length-map ys f in omega arith))

pub in_range : (g : Geometry) (i : ImageValue) → 1 ≤ i.version
    → (length i.logs.items ≡ 6) × (length i.nat.items ≡ g.nodes) × (length i.sit.items ≡ g.segments)
    × (length i.ssa.items ≡ block_count g) × (length i.nodes.items ≡ g.nodes)
    → All (λ log. IfSome log (IsPlace g)) i.logs.items
    → All (IsEntry g) i.nat.items
    → All (λ (s : SegmentValue). length s.bits.items ≡ segment_blocks g.shape) i.sit.items
    → All (λ (n : Option NodeValue). HasRange g (node_or_none n)) i.nodes.items
    → NodesHaveEntries g (image_view i)
    → IsInRange g (image_view i)
in_range g i version (logs, table, segments, summaries, nodes) places entries bits all owned = record {
  version = version;
  logs = logs;
  places = places;
  table = table;
  entries = entries;
  segments = length-map i.sit.items info_view ∙ segments;
  bits = All-map (λ (s : SegmentInfo). length s.bits ≡ segment_blocks g.shape) info_view i.sit.items bits;
  summaries = summaries;
  as_many = length-map i.nodes.items node_or_none ∙ nodes;
  nodes = All-map (HasRange g) node_or_none i.nodes.items all;
  owned = owned;
}
