use Rattle.std.proofs.Common.{refl}
use Rattle.geometry.specs.Path.{node_entries}
use Rattle.image.specs.View.{image_view}
use Rattle.image_checker.proofs.LengthLemmas.{zero_ends, zero_own, child_below, children_below}
use Rattle.image_checker.proofs.lengths.+ends_below.Goals as goal

pub returns-then-level-eq0 : goal.returns-then-level-eq0
returns-then-level-eq0 t c =
    let g = c.args.geometry.now in
    let i = image_view c.args.image.now in (
      λ yes. zero_ends g i c.args.level c.args.nid c.args.limit c.node_entries-entries.result c.if-level-eq0.true c.node_entries-entries.ensures c.requires.sized
          (c.own_end_below.ensures.0 yes),
      λ ends. c.own_end_below.ensures.1
          (zero_own i (node_entries g.shape) c.args.level c.args.nid c.args.limit c.node_entries-entries.result c.if-level-eq0.true ends),
    )

pub returns-then-not-ends_below : goal.returns-then-not-ends_below
returns-then-not-ends_below t c = (
  λ e. absurd cc,
  λ ends.
      let yes = c.ends_below.ensures.1
      (child_below c.args.geometry.now (image_view c.args.image.now) c.args.level c.args.nid c.args.limit c.loop-child.left c.loop-child.child-index
      c.deref-child-items.result.now c.loop-child.invariant.deep c.requires.sized c.loop-child.invariant.children c.loop-child.invariant.left ends) in
      let no = c.if-not-ends_below.true in cc,
)

pub returns-after-loop-child : goal.returns-after-loop-child
returns-after-loop-child t c = (
  λ e. children_below c.args.geometry.now (image_view c.args.image.now) c.args.level c.args.nid c.args.limit c.loop-child.child-index
      c.deref-child-items.result.now c.loop-child.invariant.deep c.loop-child.invariant.children c.loop-child-test.false c.loop-child.invariant.each,
  λ ends. refl,
)
