-- A number is made of its bytes, each below 256, so it gives them back; and two rows of numbers with the same bytes are
-- the same.
use Rattle.std.proofs.Common.{◌≡◌, refl, sym, ◌∙◌, ap, ℕ, zero, suc, ◌^◌, ◌<◌, ◌≤◌, List, [], ◌∷◌, ◌++◌, length, take, drop, get_or, arith, append-nil, append_assoc, length-drop}
use Rattle.std.proofs.lemmas.List.{take-append-drop, take_all, length-take-le, drop-drop}
use Rattle.std.proofs.lemmas.Nat.{le_bytes_4, le_bytes_8}
use Rattle.byteorder.specs.Endian.{little_bytes, little_from}
use Rattle.byteorder.specs.Numbers.{little_from-take}
use Rattle.image.specs.Node.{numbers}
use Rattle.image.specs.Reading.{number_at}
use Rattle.image.proofs.RoundTrip.{number_there}

-- each is a byte
abbrev pub AreBytes : List ℕ → Type 0
AreBytes bytes = (k : ℕ) → get_or bytes k 0 < 256

four_back : (bytes : List ℕ) → length bytes ≡ 4 → AreBytes bytes → little_bytes 4 (little_from 0 4 bytes) ≡ bytes
four_back bytes long all = le_bytes_4 bytes (little_from 0 4 bytes) long all (omega arith)

eight_back : (bytes : List ℕ) → length bytes ≡ 8 → AreBytes bytes → little_bytes 8 (little_from 0 8 bytes) ≡ bytes
eight_back bytes long all = le_bytes_8 bytes (little_from 0 8 bytes) long all (omega arith)

bytes_of_front : (n : ℕ) (bytes : List ℕ) → AreBytes bytes → AreBytes (take n bytes)
bytes_of_front zero bytes all k = omega arith
bytes_of_front (suc n) [] all k = omega arith
bytes_of_front (suc n) (b ∷ bytes) all zero = all 0
bytes_of_front (suc n) (b ∷ bytes) all (suc k) = bytes_of_front n bytes (λ j. all (suc j)) k

pub bytes_of_rest : (n : ℕ) (bytes : List ℕ) → AreBytes bytes → AreBytes (drop n bytes)
bytes_of_rest zero bytes all k = all k
bytes_of_rest (suc n) [] all k = omega arith
bytes_of_rest (suc n) (b ∷ bytes) all k = bytes_of_rest n bytes (λ j. all (suc j)) k

pub number_back : (bytes : List ℕ) (x : ℕ) → 4 ≤ length bytes → AreBytes bytes → x ≡ little_from 0 4 bytes → little_bytes 4 x ≡ take 4 bytes
number_back bytes x long all is =
    ap (little_bytes 4) (is ∙ sym (little_from-take 0 4 4 bytes (omega arith)))
    ∙ four_back (take 4 bytes) (length-take-le 4 bytes long) (bytes_of_front 4 bytes all)

pub time_back : (bytes : List ℕ) (x : ℕ) → 8 ≤ length bytes → AreBytes bytes → x ≡ little_from 0 8 bytes → little_bytes 8 x ≡ take 8 bytes
time_back bytes x long all is =
    ap (little_bytes 8) (is ∙ sym (little_from-take 0 8 8 bytes (omega arith)))
    ∙ eight_back (take 8 bytes) (length-take-le 8 bytes long) (bytes_of_front 8 bytes all)

pub pair_back : (bytes : List ℕ) (x y : ℕ) → length bytes ≡ 8 → AreBytes bytes → x ≡ little_from 0 4 bytes → y ≡ little_from 0 4 (drop 4 bytes)
    → numbers (x ∷ y ∷ []) ≡ bytes
pair_back bytes x y long all first second =
    let a : little_bytes 4 x ≡ take 4 bytes = number_back bytes x (omega arith) all first in
    let four : length (drop 4 bytes) ≡ 4 = omega (arith, length-drop 4 bytes) in
    let b : little_bytes 4 y ≡ drop 4 bytes = number_back (drop 4 bytes) y (omega arith) (bytes_of_rest 4 bytes all) second ∙ take_all 4 (drop 4 bytes) (omega arith) in
    ap (λ l. l ++ (little_bytes 4 y ++ [])) a
    ∙ ap (λ l. take 4 bytes ++ l) (append-nil (little_bytes 4 y) ∙ b)
    ∙ take-append-drop 4 bytes

-- two numbers are known by their bytes
pub pair_same : (a b x y : ℕ) → a < 2 ^ 32 → b < 2 ^ 32 → x < 2 ^ 32 → y < 2 ^ 32 → numbers (a ∷ b ∷ []) ≡ numbers (x ∷ y ∷ []) → (a ≡ x) × (b ≡ y)
pair_same a b x y p q r s is = (
  sym (number_there [] (little_bytes 4 b ++ []) a p) ∙ ap (λ l. number_at l 0) is ∙ number_there [] (little_bytes 4 y ++ []) x r,
  sym (number_there (little_bytes 4 a) [] b q) ∙ ap (λ l. number_at l 4) is ∙ number_there (little_bytes 4 x) [] y s,
)

pub pair_long : (a b : ℕ) → length (numbers (a ∷ b ∷ [])) ≡ 8
pair_long a b = refl

-- a segment's row: a count, a time, and what is left
pub segment_back : (bytes rest : List ℕ) (count time : ℕ) → 12 ≤ length bytes → AreBytes bytes → count ≡ little_from 0 4 bytes → time ≡ little_from 0 8 (drop 4 bytes)
    → rest ≡ drop 12 bytes → little_bytes 4 count ++ little_bytes 8 time ++ rest ≡ bytes
segment_back bytes rest count time long all first second last =
    let a : little_bytes 4 count ≡ take 4 bytes = number_back bytes count (omega arith) all first in
    let b : little_bytes 8 time ≡ take 8 (drop 4 bytes) = time_back (drop 4 bytes) time (omega (arith, length-drop 4 bytes)) (bytes_of_rest 4 bytes all) second in
    let tail : take 8 (drop 4 bytes) ++ rest ≡ drop 4 bytes
    = ap (λ r. take 8 (drop 4 bytes) ++ r) (last ∙ sym (drop-drop 8 4 bytes)) ∙ take-append-drop 8 (drop 4 bytes) in
    ap (λ l. l ++ little_bytes 8 time ++ rest) a ∙ ap (λ l. take 4 bytes ++ l ++ rest) b ∙ append_assoc (take 4 bytes) (take 8 (drop 4 bytes)) rest
    ∙ ap (λ l. take 4 bytes ++ l) tail ∙ take-append-drop 4 bytes
