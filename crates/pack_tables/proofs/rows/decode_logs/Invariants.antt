use Rattle.std.proofs.Common.{◌≡◌, ◌*◌, ◌-◌, length}
use Rattle.std.specs.Prelude.{IfSome}
use Rattle.image.specs.Pack.{log_bytes}
use Rattle.pack_tables.specs.Grammar.{IsPlaceRow}
use Rattle.pack_tables.proofs.Fronts.{IsFront}
use Rattle.pack_tables.proofs.rows.decode_logs.Given as goal

abbrev pub invariant-loop : goal.invariant-loop
invariant-loop l = record {
  read : IsFront log_bytes (λ log. IfSome log IsPlaceRow) l.counter l.bytes l.logs.items l.rest;
  left : length l.rest ≡ 8 * (l.count - l.counter);
}
