-- A digit more is ten times the number and the digit, so a word's number grows with each digit, and that of a front is
-- never larger than the whole; a byte's two digits are its own.
use Rattle.std.proofs.Common.{◌≡◌, sym, ◌∙◌, ap, ℕ, zero, suc, ◌+◌, ◌-◌, ◌*◌, ◌/◌, ◌%◌, ◌^◌, ◌<◌, ◌≤◌, List, [], ◌∷◌, ◌++◌, length, take, get_or, arith}
use Rattle.std.proofs.Math.Nat.{pow-le-pow_right, pow-suc, mul-le-mul_left, mul_assoc}
use Rattle.std.proofs.lemmas.List.{length-take, length_push, take_more}
use Rattle.program_script.specs.Numeral.{decimal, hex_digit, hex_text}

decimal-push : (word : List ℕ) (digit : ℕ) → decimal (word ++ digit ∷ []) ≡ 10 * decimal word + (digit - 48)
decimal-push [] digit = omega arith
decimal-push (d ∷ word) digit =
    let rest = decimal-push word digit in
    let place : 10 ^ length (word ++ digit ∷ []) ≡ 10 ^ length word * 10
    = ap (λ (n : ℕ). 10 ^ n) (length_push word digit) ∙ ap (λ (n : ℕ). 10 ^ n) (omega arith) ∙ pow-suc 10 (length word) in
    let first : (d - 48) * 10 ^ length (word ++ digit ∷ []) ≡ (d - 48) * 10 ^ length word * 10
    = ap (λ (p : ℕ). (d - 48) * p) place ∙ sym (mul_assoc (d - 48) (10 ^ length word) 10) in
    omega (arith, rest, first)

-- with the next digit
pub decimal-more : (word : List ℕ) (i : ℕ) → i < length word
    → decimal (take (i + 1) word) ≡ 10 * decimal (take i word) + (get_or word i 0 - 48)
decimal-more word i within = ap decimal (take_more word i 0 within) ∙ decimal-push (take i word) (get_or word i 0)

-- fewer digits of a word are no larger number
pub decimal-take : (n : ℕ) (word : List ℕ) → decimal (take n word) ≤ decimal word
decimal-take zero word = omega arith
decimal-take (suc n) [] = omega arith
decimal-take (suc n) (d ∷ word) =
    let rest = decimal-take n word in
    let short : length (take n word) ≤ length word = omega (arith, length-take n word) in
    let place : 10 ^ length (take n word) ≤ 10 ^ length word = pow-le-pow_right {n = 10} (omega arith) {i = length (take n word)} {j = length word} short in
    let first : (d - 48) * 10 ^ length (take n word) ≤ (d - 48) * 10 ^ length word = mul-le-mul_left (d - 48) place in
    omega arith

pub hex_text-digits : (word : List ℕ) (high low : ℕ) → length word ≡ 2 → low < 16 → get_or word 0 0 ≡ hex_digit high → get_or word 1 0 ≡ hex_digit low
    → word ≡ hex_text (16 * high + low)
hex_text-digits [] high low two small first second = absurd (omega arith)
hex_text-digits (a ∷ []) high low two small first second = absurd (omega arith)
hex_text-digits (a ∷ b ∷ c ∷ word) high low two small first second = absurd (omega arith)
hex_text-digits (a ∷ b ∷ []) high low two small first second =
    let upper : (16 * high + low) / 16 ≡ high = omega arith in
    let lower : (16 * high + low) % 16 ≡ low = omega arith in
    ap (λ (x : ℕ). x ∷ b ∷ []) (first ∙ ap hex_digit (sym upper)) ∙ ap (λ (x : ℕ). hex_digit ((16 * high + low) / 16) ∷ x ∷ []) (second ∙ ap hex_digit (sym lower))
