use Rattle.std.proofs.Common.{◌≡◌, ◌∙◌, ◌+◌, ◌^◌, ◌-◌, ap, sym, arith, take, length, is_some, true, false, get_or}
use Rattle.std.specs.Prelude.{min}
use Rattle.program_run.proofs.Counting.{counted, there, uncounted}
use Rattle.program_run.proofs.places.count_there.Goals.{then-is_some, else-is_some}
use Rattle.program_run.proofs.places.count_there.Goals as goal

pub loop-place-preserved : goal.loop-place-preserved
loop-place-preserved g c = elim c.if-is_some.branch [
  | then-is_some w ↦ counted c.args.places.now c.loop-place.place-index c.place-item.result c.loop-place.count c.if-is_some.count (2 ^ 32 - 1)
      (c.loop-place-test.true, c.place-item.is, sym c.is_some.ensures ∙ w.if-is_some.true, c.loop-place.invariant, w.count-is ∙ w.saturating_add-count.ensures)
  | else-is_some w ↦ uncounted c.args.places.now c.loop-place.place-index c.place-item.result c.loop-place.count c.if-is_some.count (2 ^ 32 - 1)
      (c.loop-place-test.true, c.place-item.is, sym c.is_some.ensures ∙ w.if-is_some.false, c.loop-place.invariant, w.count-is)
]
