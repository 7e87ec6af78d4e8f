use Rattle.std.proofs.Common.{◌≡◌, ◌≤◌, vec_capacity}
use Rattle.area.specs.Slips.{AreSlipsOf, HaveFreed}
use Rattle.area.proofs.freed_area.free_retired.Given as goal

abbrev pub invariant-loop-number : goal.invariant-loop-number
invariant-loop-number g l = record {
  freed : HaveFreed g.V.Numbers.GeometryName.geometry.segments l.count l.fn.pass l.pass l.fn.kept.items l.kept.items;
  few : l.count ≤ l.number;
  slips : AreSlipsOf g.V.Words.WordsName.words g.V.Numbers.GeometryName.geometry.segments l.kept.items;
  capacity : vec_capacity l.kept ≡ vec_capacity l.fn.kept;
}
