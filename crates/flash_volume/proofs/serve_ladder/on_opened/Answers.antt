-- What is served has the passes of the image's files, whose numbers are those of the names.
use Rattle.std.proofs.Common.{◌∙◌}
use Rattle.flash_volume.specs.Worked.{WasWorked}
use Rattle.flash_volume.proofs.Served.{anything, for_memory}
use Rattle.flash_volume.proofs.Visiting.{visited_from}
use Rattle.image_codec.specs.Blocks.{bytes_at}
use Rattle.flash_volume.proofs.serve_ladder.on_opened.Goals as goal

pub returns-in-Ok-clause-done : goal.returns-in-Ok-clause-done
returns-in-Ok-clause-done g c =
    let mounted = c.args.opened.named.mounted in
    visited_from
    (λ geometry base before left. WasWorked g.M.Meta.seen g.M.Meta.may_leave g.B.Block.address_of g.B.Block.content_of (anything geometry before) (for_memory geometry before) c.args.serving.leave geometry left)
    mounted.geometry g.K.TablesName.geometry mounted.image (bytes_at g.B.Block.content_of mounted.parts.blocks.items) c.in-Ok.passes.items c.with_hole_reuse-volume.result.base c.serve_and_leave.result c.args.opened.named.of_geometry
    (c.with_hole_reuse-volume.ensures.base ∙ c.in-Ok.ensures.base) c.in-Ok.ensures.passes c.serve_and_leave.ensures
