use Rattle.std.proofs.Common.{◌≡◌, ◌*◌, ◌-◌, length}
use Rattle.image.specs.Pack.{summary_bytes}
use Rattle.pack_tables.specs.Grammar.{IsSummaryRow}
use Rattle.pack_tables.proofs.Fronts.{IsFront}
use Rattle.pack_tables.proofs.rows.decode_summaries.Given as goal

abbrev pub invariant-loop : goal.invariant-loop
invariant-loop l = record {
  read : IsFront summary_bytes IsSummaryRow l.counter l.bytes l.summaries.items l.rest;
  left : length l.rest ≡ 8 * (l.count - l.counter);
}
