-- What was read so far is the number of the first digits, which is no larger than that of all: so where it passes the
-- machine's numbers, the whole word passes the largest.
use Rattle.std.proofs.Common.{◌+◌, ◌<◌, length, arith}
use Rattle.std.specs.Char.{IsAsciiDigit}
use Rattle.std.proofs.lemmas.List.Elements.{All-more}
use Rattle.program_script.proofs.DigitLemmas.{decimal-more, decimal-take}
use Rattle.program_script.proofs.number.number.Goals as goal

pub returns-in_err-checked_mul-clause-none : goal.returns-in_err-checked_mul-clause-none
returns-in_err-checked_mul-clause-none c =
    let i = c.loop-byte.byte-index in
    let word = c.args.word.now in
    let more = decimal-more word i (omega arith) in
    let whole = decimal-take (i + 1) word in
    let large = c.in_err-checked_mul.ensures in
    let so_far = c.loop-byte.invariant.value in
    rw c.from_residual-in_err-checked_mul.ensures (λ numeral. omega arith)

pub returns-in_err-number-clause-none : goal.returns-in_err-number-clause-none
returns-in_err-number-clause-none c =
    let i = c.loop-byte.byte-index in
    let word = c.args.word.now in
    let more = decimal-more word i (omega arith) in
    let whole = decimal-take (i + 1) word in
    let large = c.in_err-number.ensures in
    let so_far = c.loop-byte.invariant.value in
    let product = c.in_ok-checked_mul.ensures in
    let digit = c.in_ok-digit.ensures.some in
    rw c.from_residual-in_err-number.ensures (λ numeral. omega arith)

pub loop-byte-preserved : goal.loop-byte-preserved
loop-byte-preserved c =
    let i = c.loop-byte.byte-index in
    let word = c.args.word.now in
    let within : i < length word = omega arith in
    let more = decimal-more word i within in
    let so_far = c.loop-byte.invariant.value in
    let product = c.in_ok-checked_mul.ensures in
    let digit = c.in_ok-digit.ensures.some in
    let sum = c.in_ok-number.ensures in
    record {
      value = omega arith;
      digits = All-more IsAsciiDigit word i 0 within c.loop-byte.invariant.digits digit.0;
    }
