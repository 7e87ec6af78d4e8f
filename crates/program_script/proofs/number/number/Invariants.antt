use Rattle.std.proofs.Common.{◌≡◌, take}
use Rattle.std.specs.Prelude.{All}
use Rattle.std.specs.Char.{IsAsciiDigit}
use Rattle.program_script.specs.Numeral.{decimal}
use Rattle.program_script.proofs.number.number.Given as goal

abbrev pub invariant-loop-byte : goal.invariant-loop-byte
invariant-loop-byte l = record { value : l.number ≡ decimal (take l.byte-index l.word); digits : All IsAsciiDigit (take l.byte-index l.word) }
