use Rattle.std.proofs.Common.{◌∙◌, sym}
use Rattle.image.specs.View.{image_view}
use Rattle.image_checker.proofs.NamedLemmas.{below_stop, children_stop, children_all}
use Rattle.image_checker.proofs.naming.NamesWithAddresses.+push_below.Goals as goal

pub returns-then-not-fresh-clause-added : goal.returns-then-not-fresh-clause-added
returns-then-not-fresh-clause-added t c =
    below_stop (image_view c.args.image.now) c.args.inode c.args.level c.args.nid c.in_ok-fresh.fresh c.args.self.now.names.items _ c.args.self.now.names.items
    (sym c.fits.ensures ∙ c.if-not-fits.false) c.if-not-fresh.true c.in_ok-fresh.ensures.added

pub returns-then-not-more-clause-added : goal.returns-then-not-more-clause-added
returns-then-not-more-clause-added t c =
    children_stop (image_view c.args.image.now) c.args.inode c.args.level c.args.nid c.deref-child-items.result.now c.loop-child.child-index c.in_ok-more.more
    c.args.self.now.names.items c.loop-child.self.names.items _ c.args.self.now.names.items
    c.loop-child.invariant.fit c.loop-child.invariant.deep c.loop-child.invariant.children c.loop-child-test.true c.if-not-more.true
    c.loop-child.invariant.so_far c.in_ok-more.ensures.added

pub returns-after-loop-child-clause-added : goal.returns-after-loop-child-clause-added
returns-after-loop-child-clause-added t c =
    children_all (image_view c.args.image.now) c.args.inode c.args.level c.args.nid c.deref-child-items.result.now c.loop-child.child-index
    c.args.self.now.names.items c.loop-child.self.names.items c.loop-child.invariant.fit c.loop-child.invariant.deep c.loop-child.invariant.children
    c.loop-child-test.false c.loop-child.invariant.so_far
