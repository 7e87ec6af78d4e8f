use Rattle.std.proofs.Common.{◌≡◌, ◌∙◌, ap, subst}
use Rattle.image.specs.Free.{free_count}
use Rattle.image.specs.Image.{Image}
use Rattle.image.specs.Rules.{IsLawful}
use Rattle.image.specs.View.{image_view}
use Rattle.program_run.specs.Files.{Files}
use Rattle.program_run.proofs.session.Session.sync.Goals as goal

pub returns : goal.returns
returns g c =
    let written = c.in_ok-stored.stored.taken.image in
    let image : Image = record (image_view written.tables) { node_table = written.rows.rows.entries; segments = written.rows.rows.segments; summaries = written.rows.rows.summaries; nodes = written.rows.rows.nodes } in
    let tables = c.tables-tables.result.now in
    subst (λ (f : Files). (x : Image) × IsLawful f.geometry x × (tables.version ≡ x.version) × (tables.total ≡ x.total) × (c.free.result ≡ free_count f.geometry x)) c.self.view_is (
      image,
      c.in_ok-stored.ensures.lawful,
      ap (λ i. i.version) c.tables-tables.ensures,
      ap (λ i. i.total) c.tables-tables.ensures,
      c.free.ensures ∙ ap (λ n. free_count n image) c.in_ok-stored.ensures.geometry,
    )
