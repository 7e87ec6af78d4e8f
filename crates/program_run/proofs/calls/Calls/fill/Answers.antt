use Rattle.std.proofs.Common.{◌∙◌, arith}
use Rattle.program_run.proofs.Filling.{one_more}
use Rattle.program_run.proofs.calls.Calls.fill.Goals as goal

pub loop-index-preserved : goal.loop-index-preserved
loop-index-preserved g c =
    let low = c.loop-index.auto.index in
    let test = c.loop-index-test.true in
    let before = c.loop-index.invariant in (
      one_more c.args.share.now c.loop-index.share c.write.new.share c.args.file c.args.first c.loop-index.index c.args.byte low before.0 c.in_ok-write.ensures.written.1,
      omega arith,
      c.in_ok-write.ensures.worker ∙ before.2,
    )
