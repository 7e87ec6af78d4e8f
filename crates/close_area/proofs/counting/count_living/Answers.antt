use Rattle.std.proofs.Common.{◌≡◌, ◌<◌, ◌+◌, ℕ, if◌then◌else◌, length, ap, sym, ◌∙◌, arith}
use Rattle.close_area.proofs.Giving.{one_more}
use Rattle.close_area.proofs.counting.count_living.Goals as goal
use Rattle.close_area.proofs.counting.count_living.Goals.{then-lives, else-lives}

pub overflow_add-count : goal.overflow_add-count
overflow_add-count g c =
    let few = c.loop-k.invariant.1 in
    let low = c.loop-k-test.true in
    let fits = c.len-k-end.type_inv in
    omega arith

pub loop-k-preserved : goal.loop-k-preserved
loop-k-preserved g c =
    let long = c.args.files.now.ok.0 in
    let end = c.len-k-end.ensures in
    let test = c.loop-k-test.true in
    let low : c.loop-k.k < length c.args.files.now.items = omega arith in
    let few = c.loop-k.invariant.1 in
    elim c.if-lives.branch [
      | then-lives w ↦ (
        one_more c.args.files.now.items c.loop-k.k c.loop-k.count c.if-lives.count c.index.result.now c.lives.result low c.index.ensures c.lives.ensures c.loop-k.invariant.0
            (w.count-is ∙ ap (λ b. c.loop-k.count + (if b then 1 else 0)) (sym w.if-lives.true)),
        (let more = w.count-is in omega arith),
      )
      | else-lives w ↦ (
        one_more c.args.files.now.items c.loop-k.k c.loop-k.count c.if-lives.count c.index.result.now c.lives.result low c.index.ensures c.lives.ensures c.loop-k.invariant.0
            (let more = w.count-is in let none : ◌≡◌ {A = ℕ} (if c.lives.result then 1 else 0) 0 = ap (λ b. if b then 1 else 0) w.if-lives.false in omega arith),
        (let more = w.count-is in omega arith),
      )
    ]
