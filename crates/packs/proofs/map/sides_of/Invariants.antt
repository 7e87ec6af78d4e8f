use Rattle.std.proofs.Common.{◌≡◌, ◌++◌, ◌-◌, length, take}
use Rattle.image.specs.Reading.{number_bits}
use Rattle.packs.proofs.map.sides_of.Given as goal

abbrev pub invariant-loop-k : goal.invariant-loop-k
invariant-loop-k l = record {
  bits : take l.k l.sides ++ number_bits (64 - l.k) l.rest ≡ number_bits 64 l.fn.number;
  many : length l.sides ≡ 64;
}
