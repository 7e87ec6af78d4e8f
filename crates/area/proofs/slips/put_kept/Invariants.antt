use Rattle.std.proofs.Common.{◌≡◌, ◌+◌, ◌≤◌, [], vec_len, vec_capacity}
use Rattle.area.specs.Slips.{AreSlipsOf, HavePut}
use Rattle.area.proofs.slips.put_kept.Given as goal

abbrev pub invariant-loop-turn : goal.invariant-loop-turn
invariant-loop-turn g l = record {
  put : HavePut [] l.initial.pass l.pass l.initial.kept.items l.kept.items;
  slips : AreSlipsOf g.W.WordsName.words l.segments l.kept.items;
  capacity : vec_capacity l.kept ≡ vec_capacity l.initial.kept;
  left : vec_len l.initial.kept ≤ l._turn + vec_len l.kept;
}
