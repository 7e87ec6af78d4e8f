use Rattle.std.proofs.Common.{List, ◌<◌, sym, ap, ◌∙◌, subst}
use Rattle.rights_books.specs.Lists.{times}
use Rattle.rights_books.specs.Sameness.{same_entry}
use Rattle.rights_books.specs.declared.claim.TakenNumber.{TakenNumber}
use Rattle.rights_books.specs.Accounts.{HandView, ShardView, hand_view, shard_view}
use Rattle.rights_books.proofs.Steps.{gives}
use Rattle.rights_books.proofs.books.Books.give.Goals as goal

pub exchange-requires-clause-rule : goal.exchange-requires-clause-rule
exchange-requires-clause-rule c =
    let v = shard_view c.shard.inside.holder in
    let w = hand_view c.hand.inside.holder in
    rw (c.shard.invariant, c.hand.invariant) (gives c.args.self.now.key v.shard v.taken w.tokens w.tickets c.args.token (c.requires.home ∙ sym (ap (λ (x : ShardView). x.shard) c.shard.view_is)) (subst (λ (ks : List TakenNumber). 0 < times same_entry c.args.token ks) (sym (ap (λ (x : HandView). x.tokens) c.hand.view_is)) c.requires.held))
