use Rattle.std.proofs.Common.{◌≡◌}
use Rattle.packs.specs.Parts.{gathered}
use Rattle.packs.proofs.reading.parts_of.Given as goal

abbrev pub invariant-loop-k : goal.invariant-loop-k
invariant-loop-k l = l.body.items ≡ gathered l.geometry l.slot l.map.sides l.k l.area
