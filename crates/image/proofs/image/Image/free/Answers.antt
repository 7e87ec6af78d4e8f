use Rattle.std.proofs.Common.{◌≡◌, ℕ, ◌+◌, Bool, add-one, arith, cond, count_by}
use Rattle.std.proofs.lemmas.List.Sums.{sum_by_push}
use Rattle.image.specs.Files.{below}
use Rattle.image.specs.Free.{is_free}
use Rattle.image.specs.View.{image_view}
use Rattle.image.proofs.image.Image.free.Goals as goal
use Rattle.image.proofs.image.Image.free.Goals.{then-is_free, else-is_free}

count_more : (p : ℕ → Bool) (n : ℕ) → count_by p (below (n + 1)) ≡ count_by p (below n) + cond (p n) 1 0
count_more p n = rw add-one (sum_by_push (λ k. cond (p k) 1 0) (below n) n)

pub loop-segment-preserved : goal.loop-segment-preserved
loop-segment-preserved c =
    let p = is_free (image_view c.args.self.now) in
    let n = c.loop-segment.segment in
    let more : count_by p (below (n + 1)) ≡ count_by p (below n) + cond (p n) 1 0 = count_more p n in
    let is = c.is_free.ensures in
    elim c.if-is_free.branch [ then-is_free w ↦ grind (arith, more) | else-is_free w ↦ grind (arith, more) ]
