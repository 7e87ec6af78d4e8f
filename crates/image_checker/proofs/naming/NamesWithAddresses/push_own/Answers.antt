use Rattle.image.specs.View.{image_view}
use Rattle.image_checker.proofs.NamedLemmas.{own_stop}
use Rattle.image_checker.proofs.naming.NamesWithAddresses.push_own.Goals as goal

pub returns-then-not-fresh-clause-added : goal.returns-then-not-fresh-clause-added
returns-then-not-fresh-clause-added c =
    own_stop (image_view c.args.image.now) c.args.nid c.entry-address.result c.in_ok-fresh.fresh c.args.self.now.names.items _ c.args.self.now.names.items
    c.entry-address.ensures c.if-not-fresh.true c.in_ok-fresh.ensures.added
