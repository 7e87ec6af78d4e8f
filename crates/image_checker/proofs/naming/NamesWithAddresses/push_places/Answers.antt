use Rattle.std.proofs.Common.{ℕ, []}
use Rattle.image.specs.Walk.{names_below}
use Rattle.image.specs.View.{image_view}
use Rattle.image_checker.proofs.NamedLemmas.{flat_stop}
use Rattle.image_checker.proofs.naming.NamesWithAddresses.push_places.Goals as goal

pub returns-then-not-more-clause-added : goal.returns-then-not-more-clause-added
returns-then-not-more-clause-added c =
    flat_stop (λ (place : ℕ × ℕ). names_below (image_view c.args.image.now) c.args.inode place.0 place.1) c.args.places.now c.loop-k.k (0, 0) c.in_ok-more.more
    c.args.self.now.names.items [] c.loop-k.self.names.items _ c.args.self.now.names.items
    c.loop-k-test.true c.if-not-more.true c.loop-k.invariant.so_far c.in_ok-more.ensures.added
