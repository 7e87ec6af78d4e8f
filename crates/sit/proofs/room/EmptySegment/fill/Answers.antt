use Rattle.std.proofs.Common.{None}
use Rattle.rights_books.proofs.PartRows.{unnoted}
use Rattle.sit.specs.Noted.{segment_row}
use Rattle.sit.proofs.Registry.{fresh-registered}
use Rattle.sit.proofs.room.EmptySegment.fill.Goals as goal

pub invariant_of-result : goal.invariant_of-result
invariant_of-result g c = (
  fresh-registered c.fill_body.result c.args.account c.args.account.book c.args.self.shape c.args.self.number c.fill_body.result.failed c.fill_body.result.contents c.args.standing.life c.fill_body.ensures.segment c.requires.account
      c.requires.standing,
  unnoted c.new.result None (segment_row c.fill_body.result) c.new.ensures,
)
