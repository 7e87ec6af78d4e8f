use Rattle.std.proofs.Common.{None, ap}
use Rattle.geometry.specs.declared.state.State.TheVariants.{Free}
use Rattle.rights_books.proofs.PartRows.{unnoted}
use Rattle.sit.specs.Noted.{segment_row}
use Rattle.sit.proofs.Loads.{loaded_registered}
use Rattle.sit.proofs.loading.Loading.into_free.Goals as goal

pub invariant_of-result : goal.invariant_of-result
invariant_of-result g c = (
  loaded_registered c.args.self Free 0 c.args.mtime c.into_body-body.result.0 c.into_body-body.result.1 c.args.standing.life
      c.into_body-body.ensures.body c.into_body-body.ensures.account (ap (λ l. l.segment) c.requires.standing) (ap (λ l. l.state) c.requires.standing),
  unnoted c.new.result None (segment_row c.into_body-body.result.0) c.new.ensures,
)
