use Rattle.std.proofs.Common.{◌∙◌, ap, sym}
use Rattle.std.specs.Prelude.{not, ◌==◌}
use Rattle.image.specs.View.{image_view}
use Rattle.image.specs.declared.image.NodeEntry.{NodeEntry}
use Rattle.pack_tables.specs.File.{block_in}
use Rattle.named_reading.proofs.Found.{file_there}
use Rattle.named_reading.proofs.volume.has.Goals as goal

pub returns-then-number-geometry : goal.returns-then-number-geometry
returns-then-number-geometry c = λ taken bytes.
    let geometry = c.args.geometry.now in
    file_there geometry (image_view c.args.image.now) (block_in geometry bytes) c.args.number c.if-number-geometry.true
    (sym (ap (λ (e : NodeEntry). not (e.address == 0)) c.entry.ensures) ∙ taken)
