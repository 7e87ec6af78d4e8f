-- A device that was just formatted mounts without files, so the first run begins with none; each next one mounts what
-- was left, with the steps behind the one that mounts again.
use Rattle.std.proofs.Common.{◌+◌, subst, sym}
use Rattle.program_run.specs.Ending.{WentOn}
use Rattle.program_run.proofs.Going.{Gone, begun, ended, rest_is, run_of_gone, went_on}
use Rattle.program_run.proofs.run.run_volumes.Goals as goal

-- the first volume has no file, since its device was just formatted
pub loop-left-init : goal.loop-left-init
loop-left-init g c =
    let contents = g.W.Write.contents in
    let went = c.in_ok-left.ensures.done in
    let made = c.in-Ok.ensures.mountable in
    begun g.M.Meta.seen g.B.Block.address_of g.B.Block.content_of c.args.steps.now c.in-Ok.parts c.in_ok-left.left (contents c.args.out.now) (contents c.run_mounted.new.out) went
    (c.format_law.ensures.no_file c.args.geometry went.geometry went.image c.in-Ok.parts c.in-Ok.parts made (c.mount_law.ensures.at_once c.args.geometry _ c.in-Ok.parts made) went.front went.held)

pub run_mounted-requires : goal.run_mounted-requires
run_mounted-requires g c = (search, (search, (search, (search, (search, (_, c.in-Ok.ensures.mountable.size.run))))))

pub run_mounted-requires-in-loop-left : goal.run_mounted-requires-in-loop-left
run_mounted-requires-in-loop-left g c =
    let contents = g.W.Write.contents in
    (search, (search, (search, (search, (search, run_of_gone g.M.Meta.seen g.B.Block.address_of g.B.Block.content_of c.args.steps.now c.loop-left.rest.now c.loop-left.left (contents c.args.out.now) (contents c.loop-left.out) c.loop-left-test.true c.loop-left.invariant)))))

pub loop-left-preserved : goal.loop-left-preserved
loop-left-preserved g c =
    let contents = g.W.Write.contents in
    let seen = g.M.Meta.seen in
    let address_of = g.B.Block.address_of in
    let content_of = g.B.Block.content_of in
    let left = c.loop-left.left in
    let rest = c.loop-left.rest.now in
    let same = rest_is rest (left.run + 1) in
    subst (λ steps. Gone seen address_of content_of c.args.steps.now steps c.in_ok-left-2.left (contents c.args.out.now) (contents c.run_mounted-in-loop-left.new.out)) (sym same)
    (went_on seen address_of content_of c.args.steps.now rest left c.in_ok-left-2.left (contents c.args.out.now) (contents c.loop-left.out) (contents c.run_mounted-in-loop-left.new.out) c.loop-left-test.true c.loop-left.invariant
    (subst (λ steps. WentOn seen address_of content_of left.parts steps left.carried c.in_ok-left-2.left (contents c.loop-left.out) (contents c.run_mounted-in-loop-left.new.out)) same c.in_ok-left-2.ensures.done))

pub returns-clause-done : goal.returns-clause-done
returns-clause-done g c =
    let contents = g.W.Write.contents in
    ended g.M.Meta.seen g.B.Block.address_of g.B.Block.content_of c.args.steps.now c.loop-left.rest.now c.loop-left.left (contents c.args.out.now) (contents c.loop-left.out) c.loop-left-test.false c.loop-left.invariant
