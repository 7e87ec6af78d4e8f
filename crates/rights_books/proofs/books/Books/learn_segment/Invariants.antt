use Rattle.std.proofs.Common.{◌∷◌}
use Rattle.rights_books.specs.declared.claim.Copied.TheVariants.{SegmentCopy}
use Rattle.rights_books.specs.declared.claim.Claim.TheVariants.{Segment, Census}
use Rattle.rights_books.specs.Accounts.{segment_view, census_view}
use Rattle.rights_books.proofs.books.Books.learn_segment.Given as goal

abbrev pub ghosts-exchange : goal.ghosts-exchange
ghosts-exchange a =
    let v = census_view a.one.now in
    let w = segment_view a.other.now in
    record { one = Census (SegmentCopy w.segment w.marks ∷ v.copies); other = Segment w.segment w.marks; told = Unit {0} }
