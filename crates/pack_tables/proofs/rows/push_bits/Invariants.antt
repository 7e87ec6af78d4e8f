use Rattle.std.proofs.Common.{◌≡◌, ◌-◌, ◌++◌}
use Rattle.image.specs.Reading.{number_bits}
use Rattle.pack_tables.proofs.rows.push_bits.Given as goal

abbrev pub invariant-loop : goal.invariant-loop
invariant-loop l = l.bits.items ++ number_bits (8 - l.counter) l.left ≡ l.initial.bits.items ++ number_bits 8 l.byte
