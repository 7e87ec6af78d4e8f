-- The lowest byte of a number is its remainder by 256 and the others are those of its quotient: so writing a number
-- that was read from bytes gives these bytes again.
use Rattle.std.proofs.Common.{◌≡◌, refl, sym, ◌∙◌, ap, ℕ, zero, suc, ◌+◌, ◌*◌, ◌/◌, ◌%◌, ◌^◌, ◌<◌, ◌≤◌, List, [], ◌∷◌, ◌++◌, length, take, drop, slice_index, arith}
use Rattle.std.proofs.Math.Nat.{div-div-eq-div-mul, pow-succ'}
use Rattle.std.proofs.lemmas.List.{drop-drop, get_or-drop, length-drop, nil_from_length, take-append-drop}
use Rattle.std.proofs.lemmas.List.Elements.{All-from_get_or}
use Rattle.std.specs.Prelude.{All}
use Rattle.std.specs.Int.{byte_at, bytes_low_first}
use Rattle.byteorder.specs.Endian.{little_bytes, little_number, IsRead}
use Rattle.byteorder.specs.Numbers.{little_from-cons, little_from-lt}
use Rattle.image.specs.Node.{numbers}

abbrev pub AreBytes : List ℕ → Type 0
AreBytes xs = (k : ℕ) → slice_index xs k < 256

pub AreBytes-drop : (n : ℕ) (xs : List ℕ) → AreBytes xs → AreBytes (drop n xs)
AreBytes-drop n xs h k = rw (get_or-drop n xs k 0) (h (n + k))

-- the bytes of a number above its lowest one
byte_at-suc : (j a r : ℕ) → a < 256 → byte_at (suc j) (a + 256 * r) ≡ byte_at j r
byte_at-suc zero a r h = omega arith
byte_at-suc (suc j) a r h =
    let above : (a + 256 * r) / 256 ≡ r = omega arith in
    ap (λ (p : ℕ). (a + 256 * r) / p % 256) (pow-succ' 256 (suc j))
    ∙ ap (λ (x : ℕ). x % 256) (sym (div-div-eq-div-mul (a + 256 * r) 256 (256 ^ suc j)))
    ∙ ap (λ (x : ℕ). x / 256 ^ suc j % 256) above

bytes_low_first-suc : (n j a r : ℕ) → a < 256 → bytes_low_first (suc j) n (a + 256 * r) ≡ bytes_low_first j n r
bytes_low_first-suc zero j a r h = refl
bytes_low_first-suc (suc n) j a r h = rw (byte_at-suc j a r h, bytes_low_first-suc n (suc j) a r h) refl

-- what is written of a number that was read
pub little_bytes-read : (n : ℕ) (xs : List ℕ) → n ≤ length xs → AreBytes xs → little_bytes n (little_number n xs) ≡ take n xs
little_bytes-read zero xs long all = refl
little_bytes-read (suc n) [] long all = absurd (omega arith)
little_bytes-read (suc n) (a ∷ xs) long all =
    let low = all 0 in
    let rest = little_bytes-read n xs (omega arith) (λ k. all (suc k)) in
    let first : (a + 256 * little_number n xs) % 256 ≡ a = omega arith in
    ap (λ (r : ℕ). little_bytes (suc n) (a + 256 * r)) (little_from-cons 0 n a xs)
    ∙ rw (first, bytes_low_first-suc n 0 a (little_number n xs) low, rest) refl

-- numbers that were read one after the other
pub numbers-read : (dst src : List ℕ) → AreBytes src → length src ≡ 4 * length dst → IsRead little_number 4 src dst → numbers dst ≡ src
numbers-read [] src all long read = sym (nil_from_length src long)
numbers-read (x ∷ dst) src all long read =
    let first : little_bytes 4 x ≡ take 4 src = ap (little_bytes 4) (read 0 (omega arith)) ∙ little_bytes-read 4 src (omega arith) all in
    let rest : numbers dst ≡ drop 4 src =
    numbers-read dst (drop 4 src) (AreBytes-drop 4 src all) (omega (arith, length-drop 4 src))
    (λ k within. read (suc k) (omega arith) ∙ ap (λ (xs : List ℕ). little_number 4 xs) (place k)) in
    ap (λ (xs : List ℕ). xs ++ numbers dst) first ∙ ap (λ (xs : List ℕ). take 4 src ++ xs) rest ∙ take-append-drop 4 src
  where
    place : (k : ℕ) → drop (4 * suc k) src ≡ drop (4 * k) (drop 4 src)
    place k = let e : 4 * suc k ≡ 4 + 4 * k = omega arith in ap (λ (n : ℕ). drop n src) e ∙ sym (drop-drop (4 * k) 4 src)

pub numbers_read-fit : (dst src : List ℕ) → AreBytes src → IsRead little_number 4 src dst → All (λ x. x < 2 ^ 32) dst
numbers_read-fit dst src all read =
    All-from_get_or (λ x. x < 2 ^ 32) dst 0 (λ k within.
    rw (read k within) (little_from-lt 0 4 (drop (4 * k) src) (AreBytes-drop (4 * k) src all)))
