use Rattle.std.proofs.Common.{◌≡◌, [], refl, arith}
use Rattle.std.proofs.lemmas.List.{nil_from_length}
use Rattle.std.specs.Vec.Iter.{into_iter_items}
use Rattle.program_run.proofs.Zipping.{all_mapped, next_mapped, none_mapped}
use Rattle.program_run.proofs.part.all_done.Goals as goal

pub loop-end-init : goal.loop-end-init
loop-end-init g c =
    none_mapped _ _ _ c.args.ended.items c.new-all.result.items (into_iter_items c.into_iter-end-iterator.result) c.new-all.ensures.items c.into_iter-end-iterator.ensures.into_iter_gives.0

pub loop-end-preserved : goal.loop-end-preserved
loop-end-preserved g c =
    next_mapped _ _ _ c.args.ended.items c.loop-end.all.items c.push.new.self.items (into_iter_items c.loop-end.end-iterator) (into_iter_items c.next.new.self) c.in-Some.end _
    c.in_ok-push.ensures.items c.in-Some.ensures.steps.0 c.loop-end.invariant
    (record { text = c.in_ok-done.field-0; ok = c.in_ok-done.was; text_is = refl; held_is = refl })

pub returns : goal.returns
returns g c =
    let rest = into_iter_items c.loop-end.end-iterator in
    let none : rest ≡ [] = nil_from_length rest (omega (arith, c.in-None.ensures.steps.0, c.loop-end.end-iterator.rest.ok)) in
    all_mapped _ _ _ c.args.ended.items c.loop-end.all.items rest none c.loop-end.invariant
