-- A number is at most what it is joined into by bits, so where that is 0 all are.
use Rattle.std.proofs.Common.{◌≡◌, ◌<◌, ◌≤◌, ap, sym, subst, ◌∙◌, inl, inr, refl, arith}
use Rattle.std.specs.Prelude.{slice_index}
use Rattle.std.specs.Int.RustNames.{bit_or}
use Rattle.std.proofs.lemmas.Bool.{cases_lt}
use Rattle.std.proofs.lemmas.Nat.{le_or_l, le_or_r}
use Rattle.image_checker.proofs.used.are_zeros.Goals as goal

pub loop-at-preserved : goal.loop-at-preserved
loop-at-preserved c =
    let xs = c.args.numbers.now in
    let all = c.loop-at.all in
    let at = c.loop-at.at in
    let n = slice_index xs at in
    let was = c.loop-at.invariant in
    record {
      above = λ k lt. (let wide = le_or_l all n in elim (cases_lt k at) [
        | inl low ↦ let before = was.above k low in omega arith
        | inr ge ↦ let is : k ≡ at = omega arith in subst (λ j. slice_index xs j ≤ bit_or all n) (sym is) (le_or_r all n)
      ]);
      none = λ zeros. ap (λ a. bit_or a n) (was.none zeros) ∙ ap (bit_or 0) (zeros at);
    }
