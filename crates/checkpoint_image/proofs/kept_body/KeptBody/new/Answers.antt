use Rattle.std.proofs.Common.{ap, length, arith}
use Rattle.checkpoint_image.proofs.KeptRows.{blank_order, blank_rows}
use Rattle.checkpoint_image.proofs.kept_body.KeptBody.new.Goals as goal

pub invariant_of-result : goal.invariant_of-result
invariant_of-result c = record {
  every_twin = c.requires.every;
  in_order = blank_order c.args.rows c.args.twins.items c.requires.blank;
  spelled = λ some. absurd (omega (arith, some, ap length c.new.ensures.none));
  unspelled = λ none. blank_rows c.args.rows c.args.twins.items c.requires.blank;
  fresh = λ none. c.new.ensures.touched;
}
