use Rattle.std.proofs.Common.{◌≡◌, ◌≢◌, ◌∙◌, ℕ, ◌+◌, ◌-◌, ◌<◌, ◌∷◌, ◌++◌, [], sym, subst, arith, length, get_or, take}
use Rattle.std.proofs.lemmas.List.{take_more, take_all}
use Rattle.program_run.proofs.Moving.{AreMovedSoFar, all_moved, none_more, one_moved}
use Rattle.program_run.specs.Share.{AreMoved}
use Rattle.std.specs.List.{Contains}
use Rattle.program_run.proofs.moves.move_items.Goals as goal
use Rattle.program_run.proofs.moves.move_items.Goals.{then-number-gt0+then-number-from, else-number-gt0, else-number-gt0-via-then-number-gt0+else-number-from, else-number-gt0-via-else-number-gt0}

pub loop-number-preserved : goal.loop-number-preserved
loop-number-preserved g c =
    let old = c.args.from.now in
    let numbers = c.args.numbers.now in
    let index = c.loop-number.number-index in
    let number = get_or numbers index 0 in
    let test = c.loop-number-test.true in
    let before = c.loop-number.invariant in
    let more : take (index + 1) numbers ≡ take index numbers ++ number ∷ [] = take_more numbers index 0 test in
    subst (λ ns. AreMovedSoFar ns old c.if-number-gt0.to c.if-number-gt0.from) (sym more) (elim c.if-number-gt0.branch [
      | then-number-gt0+then-number-from w ↦
          let some = w.if-number-gt0.true in
          let within = w.if-number-from.true in
          let count = before.rest_count in
          one_moved old (take index numbers) number (number - 1) c.loop-number.to c.loop-number.from c.if-number-gt0.to c.if-number-gt0.from
          (omega arith) (omega arith) (w.to-is ∙ w.move_item.ensures.to) (w.from-is ∙ w.move_item.ensures.from) before
      | else-number-gt0 w ↦
          let past : (k : ℕ) → k < length old → number ≢ k + 1 = λ k low same. elim w.else-number-gt0.branch [
            | else-number-gt0-via-then-number-gt0+else-number-from w' ↦ let high = w'.if-number-from.false in let count = before.rest_count in omega arith
            | else-number-gt0-via-else-number-gt0 w' ↦ let none = w'.if-number-gt0.false in omega arith
          ] in
          subst (λ to. AreMovedSoFar (take index numbers ++ number ∷ []) old to c.if-number-gt0.from) (sym w.to-is)
          (subst (λ from. AreMovedSoFar (take index numbers ++ number ∷ []) old c.loop-number.to from) (sym w.from-is)
          (none_more old (take index numbers) number c.loop-number.to c.loop-number.from past before))
    ])

pub returns : goal.returns
returns g c =
    let numbers = c.args.numbers.now in
    subst (λ ns. AreMoved (Contains ns) c.args.from.now c.loop-number.to c.loop-number.from) (take_all c.loop-number.number-index numbers c.loop-number-test.false)
    (all_moved c.args.from.now (take c.loop-number.number-index numbers) c.loop-number.to c.loop-number.from c.loop-number.invariant)
