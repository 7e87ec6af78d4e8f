use Rattle.std.proofs.Common.{◌≡◌, subst, arith}
use Rattle.std.specs.Prelude.{Option, Some, None}
use Rattle.image.specs.declared.image.LogHead.{LogHead}
use Rattle.image.specs.Rules.{AreApart}
use Rattle.image_checker.proofs.logs.logs_are_apart.Goals as goal

-- two places in one segment are not apart
clash : (a b : Option LogHead) (p q : LogHead) → a ≡ Some p → b ≡ Some q → p.segment ≡ q.segment → AreApart a b → ⊥
clash a b p q is_p is_q same apart =
    let left = subst (λ (x : Option LogHead). AreApart x b) is_p apart in
    let both = subst (λ (y : Option LogHead). AreApart (Some p) y) is_q left in
    both same

pub returns-then-first-second : goal.returns-then-first-second
returns-then-first-second c = (
  λ e. absurd cc,
  λ apart. absurd
      (clash _ _ c.in-Some-Some.first c.in-Some-Some.second c.in-Some-Some.is-0 c.in-Some-Some.is-1 c.if-first-second.true
      (apart c.loop-i.i c.loop-j.j None (omega arith) c.loop-j-test.true)),
)
