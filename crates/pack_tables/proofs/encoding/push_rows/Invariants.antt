use Rattle.std.proofs.Common.{◌≡◌, ◌*◌, ◌++◌, take}
use Rattle.std.specs.Prelude.{All}
use Rattle.std.specs.List.{flat_map}
use Rattle.pack_tables.proofs.encoding.push_rows.Given as goal

abbrev pub invariant-loop-round : goal.invariant-loop-round
invariant-loop-round g l = record {
  added : l.out.items ≡ l.initial.out.items ++ flat_map g.P.Pair.bytes (take (64 * l.round) l.rows);
  small : All g.P.Pair.small (take (64 * l.round) l.rows);
}
