use Rattle.std.proofs.Common.{rules, ◌≤◌, take}
use Rattle.std.specs.Prelude.{All, IsTrue, ◌↔◌}
use Rattle.image_checker.proofs.UsedLemmas.{all_used, all_front}
use Rattle.image_checker.proofs.range.all_up_to.Goals as goal

pub returns : goal.returns
returns c =
    let xs = c.args.numbers.now in
    let used = c.used_of.result in
    let of_some : IsTrue c.all.result ↔ All (λ a. a ≤ c.args.bound) (take used xs) = search rules in (
      λ yes. all_used xs used c.used_of.ensures.past c.args.bound (of_some.0 yes),
      λ all. of_some.1 (all_front xs used c.args.bound all),
    )
