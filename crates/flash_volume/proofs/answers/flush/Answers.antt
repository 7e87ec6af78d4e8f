-- Where a place has a pass, one guard and one pass more are kept, in room that was taken before; else none.
use Rattle.std.proofs.Common.{◌≡◌, ◌≤◌, ap, arith}
use Rattle.std.specs.Prelude.{vec_len, vec_capacity}
use Rattle.flash_volume.proofs.answers.flush.Goals.{in-Some+in-Some-take, in_default}
use Rattle.flash_volume.proofs.answers.flush.Goals as goal

pub loop-place-preserved : goal.loop-place-preserved
loop-place-preserved g c =
    let before = c.loop-place.invariant in
    elim c.match-write.branch [
      | in-Some+in-Some-take w ↦ record {
        guards = (let is = ap vec_len w.guards-is in let had = before.guards in let more = w.push_reserved-in-loop-place.ensures.len in omega (arith, is, had, more));
        passes = (let is = ap vec_len w.passes-is in let had = before.passes in let more = w.push_reserved.ensures.len in omega (arith, is, had, more));
        room = (let is = ap vec_capacity w.guards-is in let had = before.room in let same = w.push_reserved-in-loop-place.ensures.capacity in omega (arith, is, had, same));
        place = (let is = ap vec_capacity w.passes-is in let had = before.place in let same = w.push_reserved.ensures.capacity in omega (arith, is, had, same));
      }
      | in_default w ↦ record {
        guards = (let is = ap vec_len w.guards-is in let had = before.guards in omega (arith, is, had));
        passes = (let is = ap vec_len w.passes-is in let had = before.passes in omega (arith, is, had));
        room = (let is = ap vec_capacity w.guards-is in let had = before.room in omega (arith, is, had));
        place = (let is = ap vec_capacity w.passes-is in let had = before.place in omega (arith, is, had));
      }
    ]
