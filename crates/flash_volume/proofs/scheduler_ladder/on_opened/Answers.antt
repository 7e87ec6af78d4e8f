-- The scheduler begins with the passes of the image's files, whose numbers are those of the names, and with all seats.
use Rattle.std.proofs.Common.{◌∙◌, ℕ, [], subst, sym}
use Rattle.flash_volume.specs.Rounds.{Held, WasScheduled, at_first}
use Rattle.flash_volume.proofs.Visiting.{visited_from}
use Rattle.geometry.specs.declared.geometry.Geometry.{Geometry}
use Rattle.image_codec.specs.Blocks.{bytes_at}
use Rattle.flash_volume.proofs.scheduler_ladder.on_opened.Goals as goal

pub run_rounds_and_leave-requires-after_bounds : goal.run_rounds_and_leave-requires-after_bounds
run_rounds_and_leave-requires-after_bounds g c κs within =
    let mounted = c.args.opened.named.mounted in
    let passes = c.in-Ok.passes.items in
    subst (λ (n : ℕ). g.X.Scheduler.fits c.args.scheduling.scheduler g.K.TablesName.geometry (record { passes = passes; seats = n; readers = [] }) []) (sym c.in-Ok.ensures.seats)
    (subst (λ (geometry : Geometry). g.X.Scheduler.fits c.args.scheduling.scheduler geometry (at_first passes) []) c.args.opened.named.of_geometry
    (c.requires.fits mounted.geometry mounted.image (bytes_at g.B.Block.content_of mounted.parts.blocks.items) passes c.in-Ok.ensures.passes))

pub returns-in-Ok-clause-done : goal.returns-in-Ok-clause-done
returns-in-Ok-clause-done g c =
    let mounted = c.args.opened.named.mounted in
    let scheduler = g.X.Scheduler in
    let passes = c.in-Ok.passes.items in
    let base = c.with_hole_reuse-volume.result.base in
    let left = c.run_rounds_and_leave.result in
    visited_from
    (λ geometry base before left. WasScheduled g.M.Meta.seen g.M.Meta.may_leave g.B.Block.address_of g.B.Block.content_of (scheduler.did c.args.scheduling.scheduler geometry base (at_first before) [])
    (scheduler.failed c.args.scheduling.scheduler geometry base (at_first before) []) geometry left)
    mounted.geometry g.K.TablesName.geometry mounted.image (bytes_at g.B.Block.content_of mounted.parts.blocks.items) passes base left c.args.opened.named.of_geometry
    (c.with_hole_reuse-volume.ensures.base ∙ c.in-Ok.ensures.base) c.in-Ok.ensures.passes
    (subst (λ (n : ℕ). let held : Held = record { passes = passes; seats = n; readers = [] } in
    WasScheduled g.M.Meta.seen g.M.Meta.may_leave g.B.Block.address_of g.B.Block.content_of (scheduler.did c.args.scheduling.scheduler g.K.TablesName.geometry base held [])
    (scheduler.failed c.args.scheduling.scheduler g.K.TablesName.geometry base held []) g.K.TablesName.geometry left) c.in-Ok.ensures.seats c.run_rounds_and_leave.ensures)
