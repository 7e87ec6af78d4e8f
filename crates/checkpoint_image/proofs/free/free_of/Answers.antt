-- One number more, and the count of the free ones grows by one where its segment is free, as the view has it.
use Rattle.std.proofs.Common.{◌≡◌, ℕ, ◌+◌, ◌==◌, ◌&&◌, not, ◌∙◌, sym, ap, Bool, List, Option, get_or, add-one, cond, count_by, arith}
use Rattle.std.proofs.lemmas.List.{get_or-map}
use Rattle.std.proofs.lemmas.List.Sums.{sum_by_push}
use Rattle.std.specs.List.{list_any}
use Rattle.geometry.specs.Shape.{segment_blocks}
use Rattle.image.specs.declared.image.LogHead.{LogHead}
use Rattle.image.specs.Files.{below}
use Rattle.image.specs.Free.{is_free, stands_in}
use Rattle.image.specs.Image.{Image, SegmentInfo, info_of, no_segment}
use Rattle.image_law.specs.Parts.{info}
use Rattle.sit.specs.Registered.{Registered}
use Rattle.checkpoint_image.specs.Cells.{segment_part}
use Rattle.checkpoint_image.specs.Held.{part_in, segment_in, infos_in}
use Rattle.checkpoint_image.proofs.free.free_of.Goals as goal
use Rattle.checkpoint_image.proofs.free.free_of.Goals.{then-is_unused, else-is_unused}

count_more : (p : ℕ → Bool) (n : ℕ) → count_by p (below (n + 1)) ≡ count_by p (below n) + cond (p n) 1 0
count_more p n = rw add-one (sum_by_push (λ k. cond (p k) 1 0) (below n) n)

so_many : (p : ℕ → Bool) (n free next : ℕ) → free ≡ count_by p (below n) → next ≡ free + cond (p n) 1 0 → next ≡ count_by p (below (n + 1))
so_many p n free next was is = is ∙ (ap (λ k. k + cond (p n) 1 0) was ∙ sym (count_more p n))

pub is_unused-requires : goal.is_unused-requires
is_unused-requires g c =
    let shown = g.S.HoldsSegment.shown in
    let n = c.loop-number.number in
    let item = c.index-segments-number.result in
    let every = c.requires.every in
    let low = c.loop-number-test.true in
    sym (ap (λ (r : Registered). segment_blocks r.segment.shape) c.segment-segment.ensures
    ∙ ap (λ (s : g.row.S.Denot). segment_blocks (segment_in shown s).shape) c.index-segments-number.is
    ∙ c.requires.blocks n item (omega arith))

pub loop-number-preserved : goal.loop-number-preserved
loop-number-preserved g c =
    let shown = g.S.HoldsSegment.shown in
    let n = c.loop-number.number in
    let xs = c.args.segments.now in
    let item = c.index-segments-number.result in
    let every = c.requires.every in
    let low = c.loop-number-test.true in
    let free = c.loop-number.free in
    let at : (image : Image) → image.segments ≡ infos_in shown xs → image.logs ≡ c.args.logs.now → c.is_unused.result ≡ is_free image n =
    λ image infos logs.
    (let one : info (segment_part c.segment-segment.result.now.segment) ≡ info_of image n =
    ap (λ (r : Registered). info (segment_part r.segment)) c.segment-segment.ensures
    ∙ ap (λ (s : g.row.S.Denot). info (part_in shown s)) c.index-segments-number.is
    ∙ sym (ap (λ (l : List SegmentInfo). get_or l n no_segment) infos ∙ get_or-map (λ s. info (part_in shown s)) xs n item no_segment (omega arith)) in
    c.is_unused.ensures
    ∙ ap (λ (i : SegmentInfo). (i.count == 0) && not (list_any (stands_in n) c.args.logs.now)) one
    ∙ ap (λ (ls : List (Option LogHead)). ((info_of image n).count == 0) && not (list_any (stands_in n) ls)) (sym logs)) in
    elim c.if-is_unused.branch [
      | then-is_unused w ↦ (
        omega (arith, c.loop-number.invariant.0),
        let next : c.if-is_unused.free ≡ free + 1 = omega arith in
            λ image infos logs. so_many (is_free image) n free c.if-is_unused.free (c.loop-number.invariant.1 image infos logs) (next ∙ ap (λ b. free + cond b 1 0) (sym w.if-is_unused.true ∙ at image infos logs)),
      )
      | else-is_unused w ↦ (
        omega (arith, c.loop-number.invariant.0),
        let next : c.if-is_unused.free ≡ free + 0 = omega arith in
            λ image infos logs. so_many (is_free image) n free c.if-is_unused.free (c.loop-number.invariant.1 image infos logs) (next ∙ ap (λ b. free + cond b 1 0) (sym w.if-is_unused.false ∙ at image infos logs)),
      )
    ]

pub returns : goal.returns
returns g c = λ image infos logs.
    let last : c.loop-number.number ≡ c.args.count = omega (arith, c.loop-number-test.false) in
    c.loop-number.invariant.1 image infos logs ∙ ap (λ n. count_by (is_free image) (below n)) last
