use Rattle.std.proofs.Common.{◌≡◌, ◌*◌, ◌-◌, length}
use Rattle.image.specs.Pack.{entry_bytes}
use Rattle.pack_tables.specs.Grammar.{IsEntryRow}
use Rattle.pack_tables.proofs.Fronts.{IsFront}
use Rattle.pack_tables.proofs.rows.decode_entries.Given as goal

abbrev pub invariant-loop : goal.invariant-loop
invariant-loop l = record {
  read : IsFront entry_bytes IsEntryRow l.counter l.bytes l.entries.items l.rest;
  left : length l.rest ≡ 8 * (l.count - l.counter);
}
