-- Parts of lists: of lists that begin alike, of a part, and of a list that is another one up to a place.
use Rattle.std.proofs.Common.{◌≡◌, refl, sym, ◌∙◌, ap, ◌⊎◌, ⊎_elim, ℕ, zero, suc, ◌+◌, ◌-◌, ◌*◌, ◌^◌, ◌<◌, ◌≤◌, List, [], ◌∷◌, ◌++◌, length, take, drop, arith, append-nil, append_assoc, length-append, length-drop}
use Rattle.std.proofs.lemmas.List.{take-append-drop, take-take, drop-take, drop-drop, take_all, drop_all, take_at, drop_at, length-take-le}
use Rattle.byteorder.specs.Numbers.{little_from-take, little_from-cons, little_number-reads_back, length-bytes_low_first}
use Rattle.byteorder.specs.Endian.{little_from, little_number, little_bytes}
use Rattle.device.specs.Disk.{part, Holds}
use Rattle.device.proofs.Ranges.{holds_part, holds_torn, torn_front, torn_before, torn_after}
use Rattle.image.specs.Reading.{number_at}
use Rattle.packs_journal.specs.Journal.{with_word}

-- a list up to a place, and up to a later one
pub take-plus : (n m : ℕ) (xs : List ℕ) → take (n + m) xs ≡ take n xs ++ take m (drop n xs)
take-plus n m xs =
    sym (take-append-drop n (take (n + m) xs))
    ∙ ap (λ l. l ++ drop n (take (n + m) xs)) (take-take n (n + m) xs (omega arith))
    ∙ ap (λ l. take n xs ++ l) (drop-take n m xs)

pub take_less : (n m : ℕ) (xs ys : List ℕ) → n ≤ m → take m xs ≡ take m ys → take n xs ≡ take n ys
take_less n m xs ys le same = sym (take-take n m xs le) ∙ ap (take n) same ∙ take-take n m ys le

pub number_same : (p m : ℕ) (xs ys : List ℕ) → p + 4 ≤ m → take m xs ≡ take m ys → number_at xs p ≡ number_at ys p
number_same p m xs ys le same = sym (little_from-take p 4 m xs le) ∙ ap (little_from p 4) same ∙ little_from-take p 4 m ys le

-- a number is that of its four bytes
pub number_of_part : (p : ℕ) (xs : List ℕ) → number_at xs p ≡ little_number 4 (part p 4 xs)
number_of_part zero xs = sym (little_from-take 0 4 4 xs (omega arith))
number_of_part (suc p) [] = refl
number_of_part (suc p) (x ∷ xs) = little_from-cons p 4 x xs ∙ number_of_part p xs

pub number_by_part : (p : ℕ) (xs ys : List ℕ) → part p 4 xs ≡ part p 4 ys → number_at xs p ≡ number_at ys p
number_by_part p xs ys same = number_of_part p xs ∙ ap (little_number 4) same ∙ sym (number_of_part p ys)

-- bytes that were put leave those before and behind them
module _ (at : ℕ) (bytes old new : List ℕ) (within : at + length bytes ≤ length old) (holds : Holds old at bytes new) where
  pub put_front : (n : ℕ) → n ≤ at → take n new ≡ take n old
  put_front n le = torn_front at (length bytes) n old new le (holds_torn at bytes old new within holds)

  pub put_before : (p k : ℕ) → p + k ≤ at → part p k new ≡ part p k old
  put_before p k le = torn_before at (length bytes) p k old new le (holds_torn at bytes old new within holds)

  pub put_after : (p k : ℕ) → at + length bytes ≤ p → part p k new ≡ part p k old
  put_after p k le = torn_after at (length bytes) p k old new le (holds_torn at bytes old new within holds)

-- a number that was put is read
pub number_put : (at x : ℕ) (old new : List ℕ) → at + 4 ≤ length old → x < 2 ^ 32 → Holds old at (little_bytes 4 x) new → number_at new at ≡ x
number_put at x old new within small holds =
    number_of_part at new
    ∙ ap (λ (n : ℕ). little_number 4 (part at n new)) (sym (length-bytes_low_first 0 4 x))
    ∙ ap (little_number 4) (holds_part at (little_bytes 4 x) old new (omega (arith, within, length-bytes_low_first 0 4 x)) holds)
    ∙ ap (little_number 4) (sym (append-nil (little_bytes 4 x))) ∙ little_number-reads_back 4 x [] small

pub part_same : (a n m : ℕ) (xs ys : List ℕ) → a + n ≤ m → take m xs ≡ take m ys → part a n xs ≡ part a n ys
part_same a n m xs ys le same = sym (drop-take a n xs) ∙ ap (drop a) (take_less (a + n) m xs ys le same) ∙ drop-take a n ys

-- a part of a part
pub part_part : (a n b m : ℕ) (xs : List ℕ) → a + n ≤ m → part a n (part b m xs) ≡ part (b + a) n xs
part_part a n b m xs le =
    sym (drop-take a n (take m (drop b xs))) ∙ ap (drop a) (take-take (a + n) m (drop b xs) le) ∙ drop-take a n (drop b xs) ∙ ap (take n) (drop-drop a b xs)

pub part_long : (a n : ℕ) (xs : List ℕ) → a + n ≤ length xs → length (part a n xs) ≡ n
part_long a n xs le = length-take-le n (drop a xs) (omega (arith, length-drop a xs, le))

-- a middle is replaced by as many
pub middle_long : (a k : ℕ) (xs ys : List ℕ) → a + k ≤ length xs → length ys ≡ k → length (take a xs ++ (ys ++ drop k (drop a xs))) ≡ length xs
middle_long a k xs ys le long =
    let front = length-take-le a xs (omega (arith, le)) in
    let first = length-append (take a xs) (ys ++ drop k (drop a xs)) in
    let second = length-append ys (drop k (drop a xs)) in
    omega (arith, front, first, second, length-drop k (drop a xs), length-drop a xs, long, le)

-- a list that is another one up to m is so up to m + n, where the next n are the same
pub grown : (m n : ℕ) (before after : List ℕ) → part m n before ≡ part m n after → take m after ++ drop m before ≡ take (m + n) after ++ drop (m + n) before
grown m n before after same =
    ap (λ l. take m after ++ l) (sym (take-append-drop n (drop m before)))
    ∙ ap (λ l. take m after ++ (l ++ drop n (drop m before))) same
    ∙ ap (λ l. take m after ++ (part m n after ++ l)) (drop-drop n m before)
    ∙ sym (append_assoc (take m after) (part m n after) (drop (m + n) before))
    ∙ ap (λ l. l ++ drop (m + n) before) (sym (take-plus m n after))

-- and so it is where a word is put there
pub word_put : (w n : ℕ) (word before after : List ℕ) → length before ≡ length after → 8 * w + n ≤ length after → (n ≡ 8) ⊎ (8 * w + n ≡ length after) → n ≤ 8
    → take n word ≡ part (8 * w) n after → length word ≡ 8
    → with_word w word (take (8 * w) after ++ drop (8 * w) before) ≡ take (8 * w + n) after ++ drop (8 * w + n) before
word_put w n word before after long within last few is eight =
    let m = 8 * w in
    let z = take m after ++ drop m before in
    let front : length (take m after) ≡ m = length-take-le m after (omega (arith, within)) in
    let whole : length z ≡ length after = length-append (take m after) (drop m before) ∙ omega (arith, front, length-drop m before, long, within) in
    let begins : take m z ≡ take m after = take_at (take m after) (drop m before) m front in
    let middle : take (length z - m) word ≡ part m n after = ⊎_elim
    (λ full. take_all (length z - m) word (omega (arith, whole, within, full, eight)) ∙ sym (take_all n word (omega (arith, full, eight))) ∙ is)
    (λ end. ap (λ (i : ℕ). take i word) (rest (length z) m n (length after) whole end) ∙ is) last in
    let past : drop (m + 8) z ≡ drop (m + n) before = ⊎_elim
    (λ full. behind full z front)
    (λ end. drop_all (m + 8) z (omega (arith, whole, end, few)) ∙ sym (drop_all (m + n) before (omega (arith, long, end)))) last in
    ap (λ l. l ++ take (length z - m) word ++ drop (m + 8) z) begins
    ∙ ap (λ l. take m after ++ l ++ drop (m + 8) z) middle
    ∙ ap (λ l. take m after ++ part m n after ++ l) past
    ∙ ap (λ l. l ++ drop (m + n) before) (sym (take-plus m n after))
  where
    rest : (z m n l : ℕ) → z ≡ l → m + n ≡ l → z - m ≡ n
    rest z m n l is end = omega (arith, is, end)

    behind : n ≡ 8 → (z : List ℕ) → length (take (8 * w) after) ≡ 8 * w → drop (8 * w + 8) (take (8 * w) after ++ drop (8 * w) before) ≡ drop (8 * w + n) before
    behind full z front =
        sym (drop-drop 8 (8 * w) (take (8 * w) after ++ drop (8 * w) before))
        ∙ ap (drop 8) (drop_at (take (8 * w) after) (drop (8 * w) before) (8 * w) front)
        ∙ drop-drop 8 (8 * w) before ∙ ap (λ (i : ℕ). drop (8 * w + i) before) (sym full)

-- a slice from an offset on
pub slice_part : (from size at n : ℕ) (xs : List ℕ) → from ≡ at → size ≡ n → take (from + size - from) (drop from xs) ≡ part at n xs
slice_part from size at n xs is is' =
    ap (λ (m : ℕ). take m (drop from xs)) (count from size n is') ∙ ap (λ (a : ℕ). part a n xs) is
  where
    count : (from size n : ℕ) → size ≡ n → from + size - from ≡ n
    count from size n is = omega (arith, is)
