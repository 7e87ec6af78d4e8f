use Rattle.std.proofs.Common.{None, ap, ◌∙◌}
use Rattle.geometry.specs.declared.state.State.TheVariants.{Sealed}
use Rattle.words.specs.Steps.{life_opened, life_sealed}
use Rattle.rights_books.proofs.PartRows.{unnoted}
use Rattle.sit.specs.Noted.{segment_row}
use Rattle.sit.proofs.Loads.{loaded_registered}
use Rattle.sit.proofs.loading.Loading.into_sealed.Goals as goal

pub invariant_of-result : goal.invariant_of-result
invariant_of-result g c =
    let opened = c.open-opened.ensures.4 ∙ ap life_opened c.requires.standing in
    let found = c.seal.ensures.0 in
    let life = c.seal.ensures.4 ∙ ap (λ l. life_sealed l found) opened in (
      loaded_registered c.args.self Sealed 0 c.args.mtime c.into_body-body.result.0 c.into_body-body.result.1 c.seal.new.standing.life
          c.into_body-body.ensures.body c.into_body-body.ensures.account (ap (λ l. l.segment) life) (ap (λ l. l.state) life),
      unnoted c.new.result None (segment_row c.into_body-body.result.0) c.new.ensures,
    )
