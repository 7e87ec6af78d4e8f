use Rattle.std.proofs.Common.{◌≡◌, ◌*◌, length, take}
use Rattle.image.specs.Pack.{bitmap}
use Rattle.pack_tables.proofs.rows.decode_bits.Given as goal

abbrev pub invariant-loop-byte : goal.invariant-loop-byte
invariant-loop-byte l = record {
  long : length l.bits.items ≡ 8 * l.byte-index;
  read : bitmap l.byte-index l.bits.items ≡ take l.byte-index l.bytes;
}
