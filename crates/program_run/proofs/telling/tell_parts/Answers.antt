-- The visit began with the files of the image that the parts hold, and so it told their lines. The writer that comes back is the one
-- that was lent, so what it holds is what `out` holds in the end.
use Rattle.std.proofs.Common.{rules, OnOk}
use Rattle.program_run.proofs.OnOk.{on_ok}
use Rattle.program_run.specs.Ending.{ToldParts}
use Rattle.program_run.proofs.Loans.{ends_as}
use Rattle.program_run.proofs.telling.tell_parts.Goals as goal

pub returns-in-Ok-left-clause-told : goal.returns-in-Ok-left-clause-told
returns-in-Ok-left-clause-told g c =
    let on = c.in-Ok.ensures.done in
    let old = g.O.Write.contents c.args.out.now in
    let output = c.in-Ok-left.done.output in
    let ended = rw c.in-Ok-left.is at on.from.visited.done in
    let same_writer = ended.kept.0 in
    ends_as (λ writer. OnOk output.told (ToldParts g.M.Meta.seen g.B.Block.content_of c.args.parts old (g.O.Write.contents writer))) output.out.now _
    (search (rules, same_writer))
    (on_ok output.told _ _
    (λ told. record {
      geometry = on.geometry;
      image = on.image;
      held = on.held.held;
      lawful = on.held.lawful;
      told = rw on.from.began at told;
    }) ended.kept.1)
