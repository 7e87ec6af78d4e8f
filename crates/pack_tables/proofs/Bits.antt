-- A number's lowest bit is its remainder by 2 and the others are those of its half: so bits give the number back, and
-- eight bits more are one byte more of a bitmap.
use Rattle.std.proofs.Common.{◌≡◌, refl, sym, ◌∙◌, ap, ℕ, zero, suc, ◌+◌, ◌-◌, ◌*◌, ◌/◌, ◌%◌, ◌^◌, ◌<◌, Bool, true, false, eqb, List, [], ◌∷◌, ◌++◌, length, take, drop, add-one, arith, length-drop}
use Rattle.std.proofs.lemmas.List.{take_all, take-append-le, drop-append-le, nil_from_length}
use Rattle.std.proofs.Math.Nat.{pow-suc}
use Rattle.image.specs.Pack.{bits_number, bitmap}
use Rattle.image.specs.Reading.{number_bits}

pub length-number_bits : (n number : ℕ) → length (number_bits n number) ≡ n
length-number_bits zero number = refl
length-number_bits (suc n) number = let e = length-number_bits n (number / 2) in omega (arith, e)

-- one bit of the eight
pub bits_step : (k left : ℕ) → k < 8 → number_bits (8 - k) left ≡ eqb (left % 2) 1 ∷ number_bits (8 - (k + 1)) (left / 2)
bits_step k left below =
    let e : 8 - k ≡ suc (8 - (k + 1)) = omega arith in
    ap (λ n. number_bits n left) e

bit_worth : (n : ℕ) (t : Bool) (bits : List Bool) → t ≡ eqb (n % 2) 1 → bits_number bits ≡ n / 2 → bits_number (t ∷ bits) ≡ n
bit_worth n true bits is rest = let h = rest in grind (arith, is, h)
bit_worth n false bits is rest = let h = rest in grind (arith, is, h)

-- a number is what its bits say
pub number_of_bits : (n number : ℕ) → number < 2 ^ n → bits_number (number_bits n number) ≡ number
number_of_bits zero number small = omega arith
number_of_bits (suc n) number small =
    let p = pow-suc 2 n in
    bit_worth number (eqb (number % 2) 1) (number_bits n (number / 2)) refl (number_of_bits n (number / 2) (omega (arith, p)))

-- eight bits more are one byte more
pub bitmap_more : (k : ℕ) (bits eight : List Bool) → length bits ≡ 8 * k → length eight ≡ 8 → bitmap (k + 1) (bits ++ eight) ≡ bitmap k bits ++ bits_number eight ∷ []
bitmap_more zero bits eight none long =
    ap (λ b. bitmap 1 (b ++ eight)) (nil_from_length bits (omega arith)) ∙ ap (λ e. bits_number e ∷ []) (take_all 8 eight (omega arith))
bitmap_more (suc k) bits eight all long =
    let front : take 8 (bits ++ eight) ≡ take 8 bits = take-append-le 8 bits eight (omega arith) in
    let rest : drop 8 (bits ++ eight) ≡ drop 8 bits ++ eight = drop-append-le 8 bits eight (omega arith) in
    let short : length (drop 8 bits) ≡ 8 * k = omega (arith, length-drop 8 bits) in
    let ih : bitmap (suc k) (drop 8 bits ++ eight) ≡ bitmap k (drop 8 bits) ++ bits_number eight ∷ []
    = ap (λ n. bitmap n (drop 8 bits ++ eight)) (sym (add-one k)) ∙ bitmap_more k (drop 8 bits) eight short long in
    ap (λ n. bitmap n (bits ++ eight)) (add-one (suc k))
    ∙ ap (λ f. bits_number f ∷ bitmap (suc k) (drop 8 (bits ++ eight))) front
    ∙ ap (λ r. bits_number (take 8 bits) ∷ bitmap (suc k) r) rest
    ∙ ap (λ r. bits_number (take 8 bits) ∷ r) ih

pub length-bitmap : (n : ℕ) (bits : List Bool) → length (bitmap n bits) ≡ n
length-bitmap zero bits = refl
length-bitmap (suc n) bits = let e = length-bitmap n (drop 8 bits) in omega (arith, e)
