-- A head and a tail are numbers at fixed places and zeros behind them: so where the numbers were read and the rest is
-- zeros, the bytes are what those numbers spell.
use Rattle.std.proofs.Common.{◌≡◌, refl, sym, ◌∙◌, ap, ℕ, zero, suc, ◌-◌, ◌^◌, ◌<◌, ◌≤◌, List, [], ◌∷◌, ◌++◌, length, take, drop, replicate, get_or, arith, drop-cons}
use Rattle.std.proofs.lemmas.List.{length-take-le, length-drop, nil_from_length, take-append-drop, take_rest}
use Rattle.byteorder.specs.Endian.{little_bytes, little_number, IsRead}
use Rattle.byteorder.specs.Numbers.{little_number-reads_back}
use Rattle.geometry.specs.declared.kind.Kind.{Kind}
use Rattle.image.specs.Node.{numbers, kind_code}
use Rattle.image_codec.specs.Parts.{head_of, tail_of}
use Rattle.image_codec.proofs.NumberLemmas.{AreBytes, little_bytes-read, numbers-read}

AreBytes-take : (n : ℕ) (xs : List ℕ) → AreBytes xs → AreBytes (take n xs)
AreBytes-take zero xs all k = omega arith
AreBytes-take (suc n) [] all k = omega arith
AreBytes-take (suc n) (x ∷ xs) all zero = all 0
AreBytes-take (suc n) (x ∷ xs) all (suc k) = AreBytes-take n xs (λ i. all (suc i)) k

three : (xs : List ℕ) → length xs ≡ 3 → xs ≡ get_or xs 0 0 ∷ get_or xs 1 0 ∷ get_or xs 2 0 ∷ []
three [] h = absurd (omega arith)
three (a ∷ []) h = absurd (omega arith)
three (a ∷ b ∷ []) h = absurd (omega arith)
three (a ∷ b ∷ c ∷ xs) h = ap (λ (rest : List ℕ). a ∷ b ∷ c ∷ rest) (nil_from_length xs (omega arith))

-- the zeros at the end of a slice
zeros_of : (n : ℕ) (bytes : List ℕ) → take (length bytes - n) (drop n bytes) ≡ replicate (length (take (length bytes - n) (drop n bytes))) 0
    → drop n bytes ≡ replicate (length bytes - n) 0
zeros_of n bytes zeros =
    let rest = take_rest bytes n in
    sym rest ∙ zeros ∙ ap (λ (k : ℕ). replicate k 0) (ap length rest ∙ length-drop n bytes)

pub zeros_there : (n : ℕ) (bytes : List ℕ) → drop n bytes ≡ replicate (length bytes - n) 0
    → take (length bytes - n) (drop n bytes) ≡ replicate (length (take (length bytes - n) (drop n bytes))) 0
zeros_there n bytes zeros =
    let rest = take_rest bytes n in
    rest ∙ zeros ∙ ap (λ (k : ℕ). replicate k 0) (sym (ap length rest ∙ length-drop n bytes))

pub tail_read : (bytes dst : List ℕ) → AreBytes bytes → length bytes ≡ 24 → length dst ≡ 3 → IsRead little_number 4 (take 12 bytes) dst
    → take (length bytes - 12) (drop 12 bytes) ≡ replicate (length (take (length bytes - 12) (drop 12 bytes))) 0
    → bytes ≡ tail_of (get_or dst 0 0) (get_or dst 1 0) (get_or dst 2 0)
unfolding tail_of
tail_read bytes dst all long few read zeros =
    let short = length-take-le 12 bytes (omega arith) in
    let front : numbers dst ≡ take 12 bytes = numbers-read dst (take 12 bytes) (AreBytes-take 12 bytes all) (omega arith) read in
    let twelve : length bytes - 12 ≡ 12 = omega arith in
    sym (take-append-drop 12 bytes)
    ∙ ap (λ (f : List ℕ). f ++ drop 12 bytes) (sym front ∙ ap numbers (three dst few))
    ∙ ap (λ (r : List ℕ). numbers (get_or dst 0 0 ∷ get_or dst 1 0 ∷ get_or dst 2 0 ∷ []) ++ r)
    (zeros_of 12 bytes zeros ∙ ap (λ (k : ℕ). replicate k 0) twelve)

-- the numbers that are read of a tail
pub nid_of_tail : (dst : List ℕ) (nid inode class : ℕ) → length dst ≡ 3 → nid < 2 ^ 32
    → IsRead little_number 4 (take 12 (tail_of nid inode class)) dst → get_or dst 0 0 ≡ nid
unfolding tail_of
nid_of_tail dst nid inode class few low read = read 0 (omega arith) ∙ little_number-reads_back 4 nid (numbers (inode ∷ class ∷ [])) low

pub inode_of_tail : (dst : List ℕ) (nid inode class : ℕ) → length dst ≡ 3 → inode < 2 ^ 32
    → IsRead little_number 4 (take 12 (tail_of nid inode class)) dst → get_or dst 1 0 ≡ inode
unfolding tail_of
inode_of_tail dst nid inode class few low read = read 1 (omega arith) ∙ little_number-reads_back 4 inode (numbers (class ∷ [])) low

pub zeros_of_tail : (nid inode class : ℕ) → drop 12 (tail_of nid inode class) ≡ replicate 12 0
unfolding tail_of
zeros_of_tail nid inode class = refl

pub head_read : (bytes : List ℕ) (kind : Kind) → AreBytes bytes → 5 ≤ length bytes → kind_code kind ≡ get_or bytes 4 0
    → take (length bytes - 5) (drop 5 bytes) ≡ replicate (length (take (length bytes - 5) (drop 5 bytes))) 0
    → bytes ≡ head_of (length bytes) (little_number 4 bytes) kind
unfolding head_of
head_read bytes kind all long is zeros =
    let size = little_bytes-read 4 bytes (omega arith) all in
    let rest : drop 4 bytes ≡ kind_code kind ∷ replicate (length bytes - 5) 0
    = drop-cons bytes 4 0 (omega arith) ∙ ap (λ (b : ℕ). b ∷ drop 5 bytes) (sym is) ∙ ap (λ (r : List ℕ). kind_code kind ∷ r) (zeros_of 5 bytes zeros) in
    sym (take-append-drop 4 bytes) ∙ ap (λ (f : List ℕ). f ++ drop 4 bytes) (sym size) ∙ ap (λ (r : List ℕ). little_bytes 4 (little_number 4 bytes) ++ r) rest

pub kind_of_head : (n size : ℕ) (kind : Kind) → get_or (head_of n size kind) 4 0 ≡ kind_code kind
unfolding head_of
kind_of_head n size kind = refl

pub zeros_of_head : (n size : ℕ) (kind : Kind) → drop 5 (head_of n size kind) ≡ replicate (n - 5) 0
unfolding head_of
zeros_of_head n size kind = refl
