use Rattle.std.proofs.Common.{refl, ap, arith}
use Rattle.pool.proofs.Gathering.{collects_next}
use Rattle.pool.proofs.pool.Pool.settle_all.Goals as goal

pub loop-other-preserved : goal.loop-other-preserved
loop-other-preserved g c =
    let parts = ap (λ a. a.ordinary.parts) c.join.ensures in
    let kept = c.loop-other.invariant in
    record {
      enough = let e = kept.enough in let s = c.has_parts-in-Some.ensures.some in let l = c.in-Some.ensures.len in omega (arith, e, s, l, parts);
      some = let s = kept.some in omega (arith, s, parts);
      ordinary = collects_next (λ a. a.ordinary) _ _ (λ a b. refl) _ _ _ _ _ c.join.ensures c.in-Some.ensures.items kept.ordinary;
      reserve = collects_next (λ a. a.reserve) _ _ (λ a b. refl) _ _ _ _ _ c.join.ensures c.in-Some.ensures.items kept.reserve;
    }
