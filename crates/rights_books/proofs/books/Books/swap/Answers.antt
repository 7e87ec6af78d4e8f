use Rattle.std.proofs.Common.{◌≡◌, List, [], ◌∷◌, ◌++◌, ◌%◌, ◌<◌, sym, ap, ◌∙◌, subst}
use Rattle.geometry.specs.Mark.{same_mark}
use Rattle.geometry.specs.declared.owner.Owner.TheVariants.{Node}
use Rattle.geometry.specs.declared.owner.Mark.{Mark}
use Rattle.rights_books.specs.ClaimRules.{Follows}
use Rattle.rights_books.specs.Lists.{times, without}
use Rattle.rights_books.specs.Sameness.{same_entry}
use Rattle.rights_books.specs.Rules.{Lawful, moved_to, with_lodged}
use Rattle.rights_books.specs.Weights.{mark_of}
use Rattle.rights_books.specs.declared.claim.Claim.TheVariants.{Hand, Shard}
use Rattle.rights_books.specs.declared.claim.TakenNumber.{TakenNumber}
use Rattle.rights_books.specs.Accounts.{HandView, ShardView, hand_view, shard_view}
use Rattle.rights_books.proofs.Steps.{swaps}
use Rattle.rights_books.proofs.books.Books.swap.Goals as goal

pub exchange-requires-clause-rule : goal.exchange-requires-clause-rule
exchange-requires-clause-rule g c =
    let v = shard_view c.shard.inside.holder in
    let w = hand_view c.hand.inside.holder in
    let old = c.of.result.value in
    let address = c.ticket.inside.mark.address in
    let new = moved_to address g.N.NewBytes.bytes old in
    let home = ap (λ (e : TakenNumber). e.number % 16) c.of.ensures ∙ (c.requires.home ∙ sym (ap (λ (x : ShardView). x.shard) c.shard.view_is)) in
    let token : 0 < times same_entry old w.tokens =
    subst (λ (z : TakenNumber × List TakenNumber). 0 < times same_entry z.0 z.1) (λ i. (sym c.of.ensures i, sym (ap (λ (x : HandView). x.tokens) c.hand.view_is) i)) c.requires.token in
    let owner = c.requires.owner ∙ ap (λ (e : TakenNumber). Node e.number) (sym c.of.ensures) in
    let same : c.args.ticket ≡ mark_of new = λ i. record { address = sym (ap (λ (m : Mark). m.address) c.ticket.view_is) i; owner = owner i } in
    let ticket : 0 < times same_mark (mark_of new) w.tickets =
    subst (λ (z : Mark × List Mark). 0 < times same_mark z.0 z.1) (λ i. (same i, sym (ap (λ (x : HandView). x.tickets) c.hand.view_is) i)) c.requires.ticket in
    let rule : Follows (Lawful c.args.self.now.key) (c.shard.inside.holder.claims ++ c.hand.inside.holder.claims)
    (Shard v.shard (new ∷ without same_entry old v.taken) ∷ Hand (with_lodged old (without same_mark (mark_of new) w.tickets)) (new ∷ without same_entry old w.tokens) ∷ [])
    ((0 < times same_entry old v.taken) × (0 < address)) =
    rw (c.shard.invariant, c.hand.invariant) (swaps c.args.self.now.key v.shard v.taken w.tokens w.tickets old address g.N.NewBytes.bytes home token ticket) in
    rule
