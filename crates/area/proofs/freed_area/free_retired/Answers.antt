use Rattle.std.proofs.Common.{◌≡◌, ◌+◌, ◌≤◌, if◌then◌else◌, ◌∙◌, arith}
use Rattle.area.proofs.Putting.{freed_turn, one_added, none_added}
use Rattle.area.proofs.freed_area.free_retired.Goals as goal
use Rattle.area.proofs.freed_area.free_retired.Goals.{then-free_one, else-free_one}

pub loop-number-preserved : goal.loop-number-preserved
loop-number-preserved g c =
    let most = c.loop-number.invariant.few in
    let added : c.if-free_one.count ≡ c.loop-number.count + (if c.free_one.result then 1 else 0) = elim c.if-free_one.branch [
      | then-free_one w ↦ one_added c.loop-number.count c.if-free_one.count c.free_one.result w.if-free_one.true w.count-is
      | else-free_one w ↦ none_added c.loop-number.count c.if-free_one.count c.free_one.result w.if-free_one.false w.count-is
    ] in
    let few : c.if-free_one.count ≤ c.loop-number.number + 1 = elim c.if-free_one.branch [ then-free_one w ↦ omega arith | else-free_one w ↦ omega arith ] in
    record {
      freed = freed_turn g.V.Numbers.GeometryName.geometry.segments c.loop-number.count c.if-free_one.count c.free_one.result c.args.pass.now c.loop-number.pass c.free_one.new.pass c.args.kept.now.items c.loop-number.kept.items c.free_one.new.kept.items
          added c.loop-number.invariant.freed c.free_one.ensures.freed;
      few = few;
      slips = c.free_one.ensures.kept;
      capacity = c.free_one.ensures.capacity ∙ c.loop-number.invariant.capacity;
    }
