-- What is read back of numbers that were spelled one after the other.
use Rattle.std.proofs.Common.{◌≡◌, refl, sym, ◌∙◌, ap, ℕ, suc, ◌+◌, ◌*◌, ◌^◌, ◌<◌, List, [], ◌∷◌, ◌++◌, length, length-append, append_assoc, arith}
use Rattle.std.specs.Prelude.{All}
use Rattle.byteorder.specs.Endian.{little_bytes, little_from}
use Rattle.byteorder.specs.Numbers.{little_from-cons, little_number-reads_back, length-bytes_low_first}
use Rattle.image.specs.Node.{numbers}
use Rattle.image.specs.Reading.{number_at, numbers_at}

at_place : (front rest : List ℕ) (n : ℕ) → little_from (length front) n (front ++ rest) ≡ little_from 0 n rest
at_place [] rest n = refl
at_place (x ∷ front) rest n = little_from-cons (length front) n x (front ++ rest) ∙ at_place front rest n

pub number_there : (front rest : List ℕ) (x : ℕ) → x < 2 ^ 32 → number_at (front ++ (little_bytes 4 x ++ rest)) (length front) ≡ x
number_there front rest x h = at_place front (little_bytes 4 x ++ rest) 4 ∙ little_number-reads_back 4 x rest h

pub numbers_there : (front xs rest : List ℕ) → All (λ x. x < 2 ^ 32) xs
    → numbers_at (front ++ (numbers xs ++ rest)) (length front) (length xs) ≡ xs
numbers_there front [] rest all = refl
numbers_there front (x ∷ xs) rest all =
    let whole : front ++ (numbers (x ∷ xs) ++ rest) ≡ front ++ (little_bytes 4 x ++ (numbers xs ++ rest))
    = ap (λ t. front ++ t) (append_assoc (little_bytes 4 x) (numbers xs) rest) in
    let moved : front ++ (numbers (x ∷ xs) ++ rest) ≡ (front ++ little_bytes 4 x) ++ (numbers xs ++ rest)
    = whole ∙ sym (append_assoc front (little_bytes 4 x) (numbers xs ++ rest)) in
    let four : length (front ++ little_bytes 4 x) ≡ length front + 4
    = length-append front (little_bytes 4 x) ∙ ap (λ n. length front + n) (length-bytes_low_first 0 4 x) in
    let head : number_at (front ++ (numbers (x ∷ xs) ++ rest)) (length front) ≡ x
    = ap (λ t. number_at t (length front)) whole ∙ number_there front (numbers xs ++ rest) x (all 0 x (omega arith)) in
    let tail : numbers_at (front ++ (numbers (x ∷ xs) ++ rest)) (length front + 4) (length xs) ≡ xs
    = ap (λ t. numbers_at t (length front + 4) (length xs)) moved
    ∙ ap (λ p. numbers_at ((front ++ little_bytes 4 x) ++ (numbers xs ++ rest)) p (length xs)) (sym four)
    ∙ numbers_there (front ++ little_bytes 4 x) xs rest (λ k d below. all (suc k) d (omega arith)) in
    rw (head, tail) refl

pub length-numbers : (xs : List ℕ) → length (numbers xs) ≡ 4 * length xs
length-numbers [] = refl
length-numbers (x ∷ xs) =
    let e = length-append (little_bytes 4 x) (numbers xs) in let f = length-bytes_low_first 0 4 x in let g = length-numbers xs in omega arith
