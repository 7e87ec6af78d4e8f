use Rattle.std.proofs.Common.{refl, sym, ap, ◌∙◌}
use Rattle.rights_books.specs.Rules.{bare_entry}
use Rattle.rights_books.specs.Accounts.{ShardView, hand_view, shard_view}
use Rattle.rights_books.proofs.Steps.{takes}
use Rattle.rights_books.proofs.books.Books.take.Goals as goal

pub exchange-requires-clause-rule : goal.exchange-requires-clause-rule
exchange-requires-clause-rule c =
    let v = shard_view c.shard.inside.holder in
    let w = hand_view c.hand.inside.holder in
    rw (c.shard.invariant, c.hand.invariant) (takes c.args.self.now.key v.shard v.taken w.tokens w.tickets (bare_entry c.args.number c.args.inode) (c.requires.home ∙ sym (ap (λ (x : ShardView). x.shard) c.shard.view_is)) refl)
