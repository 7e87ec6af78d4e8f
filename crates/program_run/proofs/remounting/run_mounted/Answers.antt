-- The scheduler began with the files of the image that the parts hold, and the door left the volume as it asked. The writer that comes
-- back is the one that was lent, so what it holds is what `out` holds in the end.
use Rattle.std.proofs.Common.{rules, refl, subst, IfOk}
use Rattle.image_codec.specs.Blocks.{bytes_at}
use Rattle.program_run.specs.Scheduler.{RanScript}
use Rattle.program_run.specs.Ending.{WentOn}
use Rattle.program_run.specs.declared.remounting.Left.{Left}
use Rattle.program_run.proofs.Leaving.{went_with_script}
use Rattle.program_run.proofs.Loans.{ends_as}
use Rattle.program_run.proofs.Shown.{in_order}
use Rattle.program_run.proofs.remounting.run_mounted.Goals as goal

pub visit_by_rounds-requires-clause-fits : goal.visit_by_rounds-requires-clause-fits
visit_by_rounds-requires-clause-fits g c κs within geometry image blocks before are = in_order geometry image blocks before are

pub returns-in_ok-run-in-Ok-left-clause-done : goal.returns-in_ok-run-in-Ok-left-clause-done
returns-in_ok-run-in-Ok-left-clause-done g c =
    let contents = g.O.Write.contents in
    let old = contents c.args.out.now in
    let on = c.in-Ok.ensures.done in
    let done = c.in-Ok-left.done in
    let halt = c.in_ok-run-in-Ok-left.field-0 in
    let left : Left g.row.M.Denot g.row.B.Denot g.row.B-Lease.Denot = record { parts = done.parts; run = halt.run; carried = halt.carried } in
    let ended = rw c.in-Ok-left.is at on.from.visited.1.done in
    let same_writer = ended.kept.0 in
    let script = rw c.in_ok-run-in-Ok-left.was at ended.kept.1.0 in
    ends_as (λ writer. WentOn g.M.Meta.seen g.B.Block.address_of g.B.Block.content_of c.args.parts c.args.steps.now c.args.carried left old (contents writer)) done.output.out.now _
    (search (rules, same_writer))
    (record {
      geometry = on.geometry;
      front = on.held.held.front;
      image = on.image;
      held = record { tables = on.held.held.tables; nodes = on.held.held.nodes };
      lawful = on.held.lawful;
      on = went_with_script g.M.Meta.seen g.M.Meta.may_leave g.B.Block.address_of g.B.Block.content_of c.seen_law.ensures on.geometry (λ text. text.items) on.image
          (bytes_at g.B.Block.content_of c.args.parts.blocks.items) c.args.steps.now c.args.carried on.from.before ended.after halt on.from.visited.0 left old (contents done.output.out.now) on.from.began script ended.left_so refl refl;
    })
