use Rattle.std.proofs.Common.{◌≡◌, ◌≢◌, ◌<◌, length, get_or, rules, arith}
use Rattle.std.proofs.lemmas.Grind.{common_steps}
use Rattle.named_files.proofs.Places.{passed_here, passed_more}
use Rattle.named_files.proofs.walk.place_of.Goals as goal

pub returns-then-number-clause-some : goal.returns-then-number-clause-some
returns-then-number-clause-some g c =
    let pass = c.index-passes-place.result in
    let low : c.loop-place.place < length c.args.passes.now = search rules in
    let is : pass ≡ get_or c.args.passes.now c.loop-place.place pass = search rules in
    let same : pass.number ≡ c.args.number = search rules in
    passed_here c.args.number c.loop-place.place c.args.passes.now pass low is c.loop-place.invariant same

pub loop-place-preserved : goal.loop-place-preserved
loop-place-preserved g c =
    let pass = c.index-passes-place.result in
    let low : c.loop-place.place < length c.args.passes.now = search rules in
    let is : pass ≡ get_or c.args.passes.now c.loop-place.place pass = search rules in
    let other : pass.number ≢ c.args.number = grind (arith, common_steps) in
    passed_more c.args.number c.loop-place.place c.args.passes.now pass low is c.loop-place.invariant other
