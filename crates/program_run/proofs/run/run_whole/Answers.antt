use Rattle.std.proofs.Common.{sym}
use Rattle.program_run.proofs.Ending.{run_of_left, wrote_script}
use Rattle.program_run.proofs.Wrapped.{run_inside, told_inside}
use Rattle.program_run.proofs.run.run_whole.Goals as goal

pub tell_parts-requires : goal.tell_parts-requires
tell_parts-requires g c =
    let contents = g.W.Write.contents in
    let blocks = c.in_ok-device.ensures.blocks in
    let run = run_of_left _ _ _ c.args.steps.now c.in_ok-left.left (contents c.args.out.now) (contents c.run_volumes.new.out) c.in_ok-left.ensures.done in
    record {
      run = (run.0, run_inside _ _ (λ b. b.inner) run.0 c.in_ok-left.left.blocks.items c.in_ok-device.device.parts.blocks.items (sym blocks) run.1 c.in_ok-parts-2.parts.blocks.items c.in_ok-parts-2.ensures.blocks);
    }

pub returns-clause-done : goal.returns-clause-done
returns-clause-done g c =
    let contents = g.W.Write.contents in
    let inside = c.in_ok-device in
    wrote_script _ _ _ c.one_image_law.ensures c.args.steps.now c.in_ok-left.left (contents c.args.out.now) (contents c.run_volumes.new.out) (contents c.tell_parts.new.out) c.in_ok-left.ensures.done
    (told_inside _ (λ b. 0) _ (λ m. m.inner) (λ b. b.inner) c.in_ok-left.left c.in_ok-parts-2.parts inside.device.parts (contents c.run_volumes.new.out) (contents c.tell_parts.new.out)
    (sym inside.ensures.meta) (sym inside.ensures.blocks) c.in_ok-parts-2.ensures.meta c.in_ok-parts-2.ensures.blocks c.in_ok-tell_parts.ensures.told)
