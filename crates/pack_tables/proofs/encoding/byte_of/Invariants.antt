use Rattle.std.proofs.Common.{◌≡◌, ◌-◌, ◌<◌, ◌^◌, drop, length}
use Rattle.image.specs.Pack.{bits_number}
use Rattle.pack_tables.proofs.encoding.byte_of.Given as goal

abbrev pub invariant-loop-past : goal.invariant-loop-past
invariant-loop-past l = record {
  value : l.byte ≡ bits_number (drop (length l.bits - l.past) l.bits);
  small : l.byte < 2 ^ l.past;
}
