use Rattle.std.proofs.Common.{◌+◌, length, arith}
use Rattle.image.specs.View.{image_view}
use Rattle.image_checker.proofs.FaultLemmas.{kept_none, kept_more, fit_of_walked, met_of_marked, marked_of_met}
use Rattle.image_checker.proofs.faults.marked_fault.Goals as goal

pub returns-then-not-taken_are_marked : goal.returns-then-not-taken_are_marked
returns-then-not-taken_are_marked c =
    let g = c.args.geometry.now in
    let i = image_view c.args.image.now in
    let w = c.mark_inodes.ensures.walked c.if-not-mark_inodes.false in
    record {
      low = omega arith;
      high = omega arith;
      broken = λ met.
          let yes = c.taken_are_marked.ensures.1 (marked_of_met g i _ _ _ w met) in
          let no = c.if-not-taken_are_marked.true in cc;
      kept = kept_more g i 4 4 (kept_none g i 4) (fit_of_walked g i _ _ _ w);
    }

pub returns : goal.returns
returns c =
    let g = c.args.geometry.now in
    let i = image_view c.args.image.now in
    let w = c.mark_inodes.ensures.walked c.if-not-mark_inodes.false in
    kept_more g i 4 5 (kept_more g i 4 4 (kept_none g i 4) (fit_of_walked g i _ _ _ w))
    (met_of_marked g i (length c.args.image.now.nat.items + 1) _ _ w (c.taken_are_marked.ensures.0 c.if-not-taken_are_marked.false))
