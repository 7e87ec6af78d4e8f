use Rattle.std.proofs.Common.{◌≡◌, ◌*◌, take}
use Rattle.std.specs.Prelude.{All}
use Rattle.std.specs.List.{flat_map}
use Rattle.pack_tables.proofs.encoding.write_rows.Given as goal

abbrev pub invariant-loop-i : goal.invariant-loop-i
invariant-loop-i g l = record {
  bytes : take (8 * l.i) l.bytes ≡ flat_map g.P.Pair.bytes (take l.i l.rows);
  small : All g.P.Pair.small (take l.i l.rows);
}
