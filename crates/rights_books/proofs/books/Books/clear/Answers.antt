use Rattle.std.proofs.Common.{List, ◌<◌, sym, ap, ◌∙◌, subst}
use Rattle.rights_books.specs.Lists.{times}
use Rattle.geometry.specs.Mark.{same_mark}
use Rattle.geometry.specs.declared.owner.Mark.{Mark}
use Rattle.rights_books.specs.Accounts.{SegmentView, HandView, segment_view, hand_view}
use Rattle.rights_books.proofs.Steps.{same_place, clears}
use Rattle.rights_books.proofs.books.Books.clear.Goals as goal

pub exchange-requires-clause-rule : goal.exchange-requires-clause-rule
exchange-requires-clause-rule c =
    let v = segment_view c.segment.inside.holder in
    let w = hand_view c.hand.inside.holder in
    let layout = c.args.self.now.key in
    rw (c.segment.invariant, c.hand.invariant) (clears layout v.segment v.marks w.tickets w.tokens c.ticket.inside.mark (same_place layout v.segment c.ticket.inside.mark c.args.ticket c.ticket.view_is (c.requires.home ∙ sym (ap (λ (x : SegmentView). x.segment) c.segment.view_is))) (subst (λ (z : Mark × List Mark). 0 < times same_mark z.0 z.1) (λ i. (sym c.ticket.view_is i, sym (ap (λ (x : HandView). x.tickets) c.hand.view_is) i)) c.requires.held))
