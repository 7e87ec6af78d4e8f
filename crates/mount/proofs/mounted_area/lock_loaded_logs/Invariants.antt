use Rattle.std.proofs.Common.{◌≡◌, ◌+◌, ◌≤◌, length, vec_len, vec_capacity}
use Rattle.std.specs.Vec.Iter.{into_iter_items, into_iter_len}
use Rattle.mount.specs.Logs.{EachStands}
use Rattle.mount.specs.Pooled.{HasSameLists}
use Rattle.mount.proofs.mounted_area.lock_loaded_logs.Given as goal

abbrev pub invariant-slips : goal.invariant-slips
invariant-slips g l =
    (vec_len l.cells + length (into_iter_items l.slip-iterator) ≡ 6) × (into_iter_len l.slip-iterator ≡ length (into_iter_items l.slip-iterator))
    × EachStands g.V.Words.WordsName.words g.V.Numbers.GeometryName.geometry.segments (into_iter_items l.slip-iterator)
    × (6 ≤ vec_capacity l.cells) × (l.pass.ordinary.parts + vec_len l.cells ≡ l.initial.pass.ordinary.parts)
    × HasSameLists l.initial.pass l.pass
