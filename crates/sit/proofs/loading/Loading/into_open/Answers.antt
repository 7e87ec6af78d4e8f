use Rattle.std.proofs.Common.{None, ap, ◌∙◌}
use Rattle.geometry.specs.declared.state.State.TheVariants.{Open}
use Rattle.words.specs.Steps.{life_opened}
use Rattle.rights_books.proofs.PartRows.{unnoted}
use Rattle.sit.specs.Noted.{segment_row}
use Rattle.sit.proofs.Loads.{loaded_registered}
use Rattle.sit.proofs.loading.Loading.into_open.Goals as goal

pub invariant_of-segment : goal.invariant_of-segment
invariant_of-segment g c =
    let life = c.open-opened.ensures.4 ∙ ap life_opened c.requires.standing in (
      loaded_registered c.args.self Open c.args.next c.args.mtime c.into_body-body.result.0 c.into_body-body.result.1 c.open-opened.new.standing.life
          c.into_body-body.ensures.body c.into_body-body.ensures.account (ap (λ l. l.segment) life) (ap (λ l. l.state) life),
      unnoted c.new.result None (segment_row c.into_body-body.result.0) c.new.ensures,
    )
