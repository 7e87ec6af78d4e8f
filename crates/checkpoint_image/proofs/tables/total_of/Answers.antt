use Rattle.std.proofs.Common.{sym, ap, take, ◌++◌, ◌∷◌, [], arith}
use Rattle.std.proofs.lemmas.List.{take_more}
use Rattle.std.proofs.lemmas.List.Sums.{sum_by_push}
use Rattle.sit.specs.Registered.{Registered}
use Rattle.image_law.specs.Parts.{info}
use Rattle.checkpoint_image.specs.Cells.{segment_part}
use Rattle.checkpoint_image.specs.Held.{part_in, total_in}
use Rattle.checkpoint_image.proofs.tables.total_of.Goals as goal

pub overflow_add-total : goal.overflow_add-total
overflow_add-total g c =
    let so_far = c.loop-held.invariant.most in
    let most = c.valid_of-total.ensures.most in
    let low = c.loop-held-test.true in
    let blocks = c.requires.few.0 in
    let segments = c.requires.few.1 in
    omega arith

pub loop-held-preserved : goal.loop-held-preserved
loop-held-preserved g c =
    let shown = g.S.HoldsSegment.shown in
    let xs = c.args.segments.now in
    let k = c.loop-held.held-index in
    let item = c.held-item.result in
    let f = λ (s : g.row.S.Denot). (info (part_in shown s)).count in
    let next = sum_by_push f (take k xs) item in
    let more = ap (total_in shown) (take_more xs k item c.loop-held-test.true) in
    let same = ap (λ (s : g.row.S.Denot). total_in shown (take k xs ++ s ∷ [])) (sym c.held-item.is) in
    let so_far = c.loop-held.invariant.so_far in
    let here = c.valid_of-total.ensures.count in
    let at = ap (λ (r : Registered). (info (segment_part r.segment)).count) c.segment.ensures in
    let most = c.loop-held.invariant.most in
    let few = c.valid_of-total.ensures.most in
    let blocks = c.requires.few.0 in
    record { so_far = omega arith; most = omega arith }
