use Rattle.std.proofs.Common.{◌≡◌, ◌+◌, ◌-◌, ◌<◌, drop, refl, ap, sym, ◌∙◌, inl, inr, arith}
use Rattle.std.specs.Prelude.{slice_index}
use Rattle.std.proofs.lemmas.Bool.{cases_lt}
use Rattle.std.proofs.lemmas.List.{get_or-take, get_or-drop}
use Rattle.image_checker.proofs.used.used_rows.Goals as goal

pub loop-used-preserved : goal.loop-used-preserved
loop-used-preserved c =
    let xs = c.args.numbers.now in
    let used = c.loop-used.used in
    let was = c.loop-used.invariant in
    let from = used - 16 in
    let zeros = c.if-are_zeros.ensures.0 refl in
    record {
      within = let few = was.within in omega arith;
      past = λ k le. elim (cases_lt k used) [
        | inl low ↦
            let here : from + (k - from) ≡ k = omega arith in
            let there : k - from < used - from = let enough = c.loop-used-test.true in omega arith in
            ap (λ j. slice_index xs j) (sym here)
            ∙ (sym (get_or-take (used - from) (drop from xs) (k - from) 0 there ∙ get_or-drop from xs (k - from) 0) ∙ zeros (k - from))
        | inr ge ↦ was.past k ge
      ];
    }
