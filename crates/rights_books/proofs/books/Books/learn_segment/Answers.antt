use Rattle.std.proofs.Common.{◌≡◌, ap}
use Rattle.geometry.specs.Weights.{weigh}
use Rattle.rights_books.specs.Weights.{segment_copy, past}
use Rattle.rights_books.specs.Accounts.{SegmentView, CensusView, segment_view, census_view}
use Rattle.rights_books.proofs.books.Books.learn_segment.Goals as goal
use Rattle.rights_books.proofs.Counting.{counts_segment}

pub exchange-requires-clause-rule : goal.exchange-requires-clause-rule
exchange-requires-clause-rule c =
    let v = census_view c.audit.inside.holder in
    let w = segment_view c.segment.inside.holder in
    let fresh : weigh (segment_copy (past w.segment)) v.copies ≡ 0 =
    rw (ap (λ (x : CensusView). x.copies) c.audit.view_is, ap (λ (x : SegmentView). x.segment) c.segment.view_is) c.requires.ascending in
    rw (c.audit.invariant, c.segment.invariant) (counts_segment c.args.self.now.key w.segment w.marks v.copies fresh)
