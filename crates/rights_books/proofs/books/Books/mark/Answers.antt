use Rattle.std.proofs.Common.{sym, ap, ◌∙◌}
use Rattle.rights_books.specs.Accounts.{SegmentView, segment_view, hand_view}
use Rattle.rights_books.proofs.Steps.{marks}
use Rattle.rights_books.proofs.books.Books.mark.Goals as goal

pub exchange-requires-clause-rule : goal.exchange-requires-clause-rule
exchange-requires-clause-rule c =
    let v = segment_view c.segment.inside.holder in
    let w = hand_view c.hand.inside.holder in
    rw (c.segment.invariant, c.hand.invariant) (marks c.args.self.now.key v.segment v.marks w.tickets w.tokens c.args.mark c.requires.address (c.requires.home ∙ sym (ap (λ (x : SegmentView). x.segment) c.segment.view_is)))
