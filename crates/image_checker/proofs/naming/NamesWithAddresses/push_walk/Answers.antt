use Rattle.std.proofs.Common.{[], ◌∷◌}
use Rattle.image.specs.View.{image_view}
use Rattle.image_checker.proofs.NamedLemmas.{walk_stop, walk_more, places_are}
use Rattle.image_checker.proofs.naming.NamesWithAddresses.push_walk.Goals as goal

pub returns-then-not-fresh-clause-added : goal.returns-then-not-fresh-clause-added
returns-then-not-fresh-clause-added c =
    walk_stop (image_view c.args.image.now) c.args.inode c.in_ok-fresh.fresh c.args.self.now.names.items _ c.args.self.now.names.items
    c.if-not-fresh.true c.in_ok-fresh.ensures.added

pub returns-clause-added : goal.returns-clause-added
returns-clause-added c =
    let i = image_view c.args.image.now in
    walk_more i c.args.inode c.in_ok-fresh.fresh c.in_ok-all.all c.args.self.now.names.items _ _
    ((0, c.child.result) ∷ (0, c.child-2.result) ∷ (1, c.child-3.result) ∷ (1, c.child-4.result) ∷ (2, c.child-5.result) ∷ []) c.if-not-fresh.false
    (places_are i c.args.inode c.child.result c.child-2.result c.child-3.result c.child-4.result c.child-5.result
    c.child.ensures c.child-2.ensures c.child-3.ensures c.child-4.ensures c.child-5.ensures)
    c.in_ok-fresh.ensures.added c.in_ok-all.ensures.added
