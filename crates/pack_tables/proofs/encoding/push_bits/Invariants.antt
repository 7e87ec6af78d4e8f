use Rattle.std.proofs.Common.{◌≡◌, ◌-◌, ◌++◌}
use Rattle.image.specs.Pack.{bitmap}
use Rattle.pack_tables.proofs.encoding.push_bits.Given as goal

abbrev pub invariant-loop : goal.invariant-loop
invariant-loop l = l.out.items ++ bitmap (l.count - l.counter) l.rest ≡ l.initial.out.items ++ bitmap l.count l.bits
