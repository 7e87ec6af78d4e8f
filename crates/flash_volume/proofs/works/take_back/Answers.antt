use Rattle.std.proofs.Common.{◌≡◌, ◌∙◌, ◌++◌, [], Ok, ap, arith, inr, map, subst, sym}
use Rattle.std.proofs.lemmas.List.{nil_from_length}
use Rattle.std.specs.List.{flat_map}
use Rattle.std.specs.Vec.Iter.{into_iter_items}
use Rattle.flash_volume.proofs.Dealing.{flat_more, seats_all, seats_back, zipped_all, zipped_more}
use Rattle.flash_volume.specs.Beside.{OneEnded}
use Rattle.flash_volume.proofs.works.take_back.Goals as goal

pub returns-clause-outputs : goal.returns-clause-outputs
returns-clause-outputs g c =
    let none : into_iter_items c.loop-end.end-iterator ≡ [] = nil_from_length (into_iter_items c.loop-end.end-iterator) (omega (arith, c.in-None.ensures.steps.0, c.loop-end.end-iterator.rest.ok)) in
    zipped_all (λ end output. end.done ≡ Ok output) c.args.ended.items _ _ none c.loop-end.invariant.outputs

pub returns-clause-seats : goal.returns-clause-seats
returns-clause-seats g c =
    let none : into_iter_items c.loop-end.end-iterator ≡ [] = nil_from_length (into_iter_items c.loop-end.end-iterator) (omega (arith, c.in-None.ensures.steps.0, c.loop-end.end-iterator.rest.ok)) in
    seats_all (λ end. end.lent.seats) _ _ (into_iter_items c.loop-end.end-iterator) none c.loop-end.invariant.seats

pub loop-end-preserved : goal.loop-end-preserved
loop-end-preserved g c =
    let others = into_iter_items c.loop-end.end-iterator in
    let rest = into_iter_items c.next.new.self in
    record {
      lost = λ error later. c.loop-end.invariant.lost error (subst (λ ends. OneEnded (map (λ end. record { what = end.done; held = end.lent }) ends) error) (sym c.in-Some.ensures.steps.0) (inr later));
      seats = seats_back (λ end. end.lent.seats) _ _ _ _ others rest c.in-Some.end c.in-Some.ensures.steps.0 c.in_ok-append-2.ensures.len c.split-back.ensures.seats c.loop-end.invariant.seats;
      outputs = zipped_more (λ end output. end.done ≡ Ok output) c.args.ended.items others rest c.loop-end.outputs.items c.push.new.self.items c.in-Some.end c.in_ok-done.field-0
          c.in-Some.ensures.steps.0 c.in_ok-push.ensures.items c.in_ok-done.was c.loop-end.invariant.outputs;
      passes = flat_more (λ end. end.lent.passes) (c.args.rights.now.passes.items ++ flat_map (λ end. end.lent.passes) c.args.ended.items) c.loop-end.rights.passes.items c.append.new.self.items others rest c.in-Some.end
          c.in-Some.ensures.steps.0 (c.in_ok-append.ensures.items ∙ ap (λ passes. c.loop-end.rights.passes.items ++ passes) c.split-back.ensures.passes) c.loop-end.invariant.passes;
    }
