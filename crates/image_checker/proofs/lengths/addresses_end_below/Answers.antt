use Rattle.std.proofs.Common.{◌<◌, ◌≤◌, min, length, inl, inr, sym, subst, arith}
use Rattle.std.proofs.lemmas.Bool.{cases_lt, leb-true, le-leb}
use Rattle.std.proofs.lemmas.List.{get_or_past}
use Rattle.image_checker.proofs.UsedLemmas.{ends_used, used_ends}
use Rattle.image_checker.proofs.lengths.addresses_end_below.Goals as goal

pub returns : goal.returns
returns c =
    let xs = c.args.addresses.now in
    let some = c.min-some.result in
    let used = c.used_of.result in
    let limit = c.args.limit in
    let is = c.used_of.ensures in
    let few : some ≤ length xs = let least = c.min-some.ensures in omega arith in (
      λ yes k low there. ends_used xs some used limit few is.within is.past is.least (leb-true used limit yes) k (elim (cases_lt k (length xs)) [
        | inl lt ↦ let least = c.min-some.ensures in omega arith
        | inr ge ↦ absurd (there (get_or_past xs k 0 ge))
      ]) there,
      λ ends. le-leb used limit (used_ends xs some used limit few is.within is.past is.least
          (λ k low there. ends k (let least = c.min-some.ensures in omega arith) there)),
    )
