use Rattle.std.proofs.Common.{ℕ, ◌/◌, ◌%◌, List, get_or, ap, arith}
use Rattle.program_script.proofs.DigitLemmas.{hex_text-digits}
use Rattle.program_script.proofs.number.byte.Goals as goal

pub returns-in_err-hex_digit-in-len2-clause-none : goal.returns-in_err-hex_digit-in-len2-clause-none
returns-in_err-hex_digit-in-len2-clause-none c =
    rw c.from_residual.ensures
    (λ b small same. c.in_err-hex_digit-in-len2.ensures.none (b / 16) (omega arith) (ap (λ (word : List ℕ). get_or word 0 0) same))

pub returns-in_err-hex_digit-in-len2-2-clause-none : goal.returns-in_err-hex_digit-in-len2-2-clause-none
returns-in_err-hex_digit-in-len2-2-clause-none c =
    rw c.from_residual-in_err-hex_digit-in-len2-2.ensures
    (λ b small same. c.in_err-hex_digit-in-len2-2.ensures.none (b % 16) (omega arith) (ap (λ (word : List ℕ). get_or word 1 0) same))

pub overflow_mul-result : goal.overflow_mul-result
overflow_mul-result c = let high = c.in_ok-hex_digit-in-len2.ensures.some in omega arith

pub overflow_add-result : goal.overflow_add-result
overflow_add-result c =
    let high = c.in_ok-hex_digit-in-len2.ensures.some in
    let low = c.in_ok-hex_digit-in-len2-2.ensures.some in
    omega arith

pub returns-in_ok-hex_digit-in-len2-2-clause-some : goal.returns-in_ok-hex_digit-in-len2-2-clause-some
returns-in_ok-hex_digit-in-len2-2-clause-some c =
    let high = c.in_ok-hex_digit-in-len2.ensures.some in
    let low = c.in_ok-hex_digit-in-len2-2.ensures.some in
    hex_text-digits c.args.word.now c.in_ok-hex_digit-in-len2.field-0 c.in_ok-hex_digit-in-len2-2.field-0 (omega arith) low.0 high.1 low.1
