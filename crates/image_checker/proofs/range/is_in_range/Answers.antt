use Rattle.std.proofs.Common.{◌≡◌, sym, subst, length, arith}
use Rattle.std.specs.Prelude.{All, IfSome}
use Rattle.image.specs.Image.{SegmentInfo}
use Rattle.image.specs.Rules.{IsPlace, IsEntry, HasRange}
use Rattle.image.specs.View.{info_view, node_or_none}
use Rattle.image_checker.proofs.RangeLemmas.{in_range, all_unmap}
use Rattle.geometry.specs.Shape.{segment_blocks}
use Rattle.image_checker.proofs.range.is_in_range.Goals as goal

pub returns-then-not-bits_in_range : goal.returns-then-not-bits_in_range
returns-then-not-bits_in_range c = (
  λ e. absurd cc,
  λ r.
      let bits = c.bits_in_range.ensures.1
      (subst (λ xs. All (λ s. length s.bits.items ≡ segment_blocks c.args.geometry.now.shape) xs) (sym c.deref-3.ensures.value)
      (all_unmap (λ (s : SegmentInfo). length s.bits ≡ segment_blocks c.args.geometry.now.shape) info_view c.args.image.now.sit.items r.bits)) in
      let no = c.if-not-bits_in_range.true in cc,
)

pub returns-then-not-nodes_in_range : goal.returns-then-not-nodes_in_range
returns-then-not-nodes_in_range c = (
  λ e. absurd cc,
  λ r.
      let nodes = c.nodes_in_range.ensures.1
      (subst (λ xs. All (λ n. HasRange c.args.geometry.now (node_or_none n)) xs) (sym c.deref-4.ensures.value)
      (all_unmap (HasRange c.args.geometry.now) node_or_none c.args.image.now.nodes.items r.nodes)) in
      let no = c.if-not-nodes_in_range.true in cc,
)

pub returns : goal.returns
returns c = (
  λ yes. in_range c.args.geometry.now c.args.image.now (omega arith) (c.lengths_agree.ensures.0 c.if-not-lengths_agree.false)
      (subst (λ xs. All (λ log. IfSome log (IsPlace c.args.geometry.now)) xs) c.deref.ensures.value (c.places_in_range.ensures.0 c.if-not-places_in_range.false))
      (subst (λ xs. All (IsEntry c.args.geometry.now) xs) c.deref-2.ensures.value (c.entries_in_range.ensures.0 c.if-not-entries_in_range.false))
      (subst (λ xs. All (λ s. length s.bits.items ≡ segment_blocks c.args.geometry.now.shape) xs) c.deref-3.ensures.value (c.bits_in_range.ensures.0 c.if-not-bits_in_range.false))
      (subst (λ xs. All (λ n. HasRange c.args.geometry.now (node_or_none n)) xs) c.deref-4.ensures.value (c.nodes_in_range.ensures.0 c.if-not-nodes_in_range.false))
      (c.nodes_have_entries.ensures.0 yes),
  λ r. c.nodes_have_entries.ensures.1 r.owned,
)
