-- Each pass that comes goes to the place of its number, where none stands yet: so when all have come the places hold
-- just them, in the order in which they came.
use Rattle.std.proofs.Common.{◌≡◌, ◌∙◌, ◌+◌, ◌-◌, ap, sym, subst, arith, replicate, length, None, Option, ◌∷◌, []}
use Rattle.std.proofs.lemmas.List.{nil_from_length}
use Rattle.std.specs.Vec.Iter.{into_iter_items}
use Rattle.file_cells.specs.Pass.{Pass}
use Rattle.program_run.specs.Files.{StandInPlace, passes_among}
use Rattle.program_run.proofs.Placing.{PlacedSo, all_placed, none_yet, put_next}
use Rattle.program_run.proofs.places.place_passes.Goals as goal

pub loop-pass-init : goal.loop-pass-init
loop-pass-init g c =
    let goal = c.requires.in_order.places in
    let stand = c.requires.in_order.placed in
    let none : c.in_ok-places.places.items ≡ replicate (length goal) None = c.in_ok-places.ensures.none ∙ ap (λ n. replicate n None) (sym stand.count) in
    let rest : into_iter_items c.into_iter-pass-iterator.result ≡ passes_among goal = c.into_iter-pass-iterator.ensures.into_iter_gives.0 ∙ c.requires.in_order.are in
    (goal, stand, sym c.requires.in_order.are, subst (λ places. PlacedSo goal places (into_iter_items c.into_iter-pass-iterator.result)) (sym none) (subst (PlacedSo goal (replicate (length goal) None)) (sym rest) (none_yet goal)))

pub index_mut-requires : goal.index_mut-requires
index_mut-requires g c =
    let so_far = c.loop-pass.invariant in
    omega (arith, c.number.ensures.some, c.number.ensures.within, c.requires.files, so_far.1.count, so_far.3.count, c.loop-pass.places.ok.0)

pub loop-pass-preserved-in-Some : goal.loop-pass-preserved-in-Some
loop-pass-preserved-in-Some g c =
    let so_far = c.loop-pass.invariant in
    let is : c.number.result - 1 + 1 ≡ c.in-Some.pass.number = omega (arith, c.number.ensures.some, c.number.ensures.number) in
    (so_far.0, so_far.1, so_far.2, put_next c.args.files so_far.0 c.loop-pass.places.items c.in-Some.pass (into_iter_items c.loop-pass.pass-iterator) (into_iter_items c.next.new.self) (c.number.result - 1) so_far.1 is c.in-Some.ensures.steps.0 so_far.3)

pub loop-pass-preserved : goal.loop-pass-preserved
loop-pass-preserved g c =
    let so_far = c.loop-pass.invariant in
    let is : c.number.result - 1 + 1 ≡ c.in-Some.pass.number = omega (arith, c.number.ensures.some, c.number.ensures.number) in
    (so_far.0, so_far.1, so_far.2, put_next c.args.files so_far.0 c.loop-pass.places.items c.in-Some.pass (into_iter_items c.loop-pass.pass-iterator) (into_iter_items c.next.new.self) (c.number.result - 1) so_far.1 is c.in-Some.ensures.steps.0 so_far.3)

pub returns-clause-passes : goal.returns-clause-passes
returns-clause-passes g c =
    let so_far = c.loop-pass.invariant in
    let none : into_iter_items c.loop-pass.pass-iterator ≡ [] = nil_from_length (into_iter_items c.loop-pass.pass-iterator) (omega (arith, c.in-None.ensures.steps.0, c.loop-pass.pass-iterator.rest.ok)) in
    ap passes_among (all_placed so_far.0 c.loop-pass.places.items (subst (PlacedSo so_far.0 c.loop-pass.places.items) none so_far.3)) ∙ so_far.2

pub returns-clause-placed : goal.returns-clause-placed
returns-clause-placed g c =
    let so_far = c.loop-pass.invariant in
    let none : into_iter_items c.loop-pass.pass-iterator ≡ [] = nil_from_length (into_iter_items c.loop-pass.pass-iterator) (omega (arith, c.in-None.ensures.steps.0, c.loop-pass.pass-iterator.rest.ok)) in
    subst (StandInPlace c.args.files) (sym (all_placed so_far.0 c.loop-pass.places.items (subst (PlacedSo so_far.0 c.loop-pass.places.items) none so_far.3))) so_far.1
