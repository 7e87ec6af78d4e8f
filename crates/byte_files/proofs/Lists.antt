-- Lists of bytes: what is taken of them, with zeros behind, and bytes laid over others.
use Rattle.std.proofs.Common.{◌≡◌, ◌∙◌, ◌+◌, ◌-◌, ◌++◌, ◌<◌, ◌≤◌, ℕ, suc, min, List, [], ◌∷◌, ap, ap₂, sym, refl, length, take, drop, replicate, inl, inr, arith}
use Rattle.std.proofs.lemmas.Bool.{cases_lt}
use Rattle.std.proofs.lemmas.List.{append_assoc, append-nil, length-append, length-replicate, length-take-le, length-drop, take_at, drop_at, drop_all, take_all, take-take, drop-take, drop-drop, take-append-le, drop-append-le, take-append-drop, drop-replicate, take-replicate, replicate-append-replicate}
use Rattle.flash_volume.specs.Answers.{laid_over}
use Rattle.byte_files.specs.Bytes.{extended, read_from, written_at, truncated}

plus_none : (a : ℕ) → a + 0 ≡ a
plus_none a = omega arith

-- ---- with zeros behind

pub extended_enough : (bytes : List ℕ) (n : ℕ) → n ≤ length bytes → extended bytes n ≡ bytes
extended_enough bytes n enough =
    let none : n - length bytes ≡ 0 = omega (arith, enough) in
    ap (λ k. bytes ++ replicate k 0) none ∙ append-nil bytes

pub length_extended : (xs : List ℕ) (n : ℕ) → length (extended xs n) ≡ length xs + (n - length xs)
length_extended xs n = length-append xs (replicate (n - length xs) 0) ∙ ap (λ k. length xs + k) (length-replicate (n - length xs) 0)

-- more zeros behind change nothing of what is in front
pub take_zeros : (xs : List ℕ) (n w : ℕ) → n ≤ length xs + w → take n (xs ++ replicate w 0) ≡ take n (extended xs n)
take_zeros xs n w enough =
    let few : ℕ = n - length xs in
    let sum : few + (w - few) ≡ w = omega (arith, enough) in
    let long = length_extended xs n in
    ap (λ k. take n (xs ++ replicate k 0)) (sym sum)
    ∙ ap (λ ys. take n (xs ++ ys)) (sym (replicate-append-replicate few (w - few) 0))
    ∙ ap (take n) (sym (append_assoc xs (replicate few 0) (replicate (w - few) 0)))
    ∙ take-append-le n (extended xs n) (replicate (w - few) 0) (omega (arith, long))

-- so many fall away from bytes with zeros behind them
pub drop_in_zeros : (xs : List ℕ) (v n : ℕ) → n ≤ length xs + v → drop n (xs ++ replicate v 0) ≡ drop n xs ++ replicate (v - (n - length xs)) 0
drop_in_zeros xs v n within = elim (cases_lt (length xs) n) [
  | inl past ↦
      let sum : length xs + (n - length xs) ≡ n = omega (arith, past) in
      ap (λ m. drop m (xs ++ replicate v 0)) (sym sum)
      ∙ sym (drop-drop (n - length xs) (length xs) (xs ++ replicate v 0))
      ∙ ap (drop (n - length xs)) (drop_at xs (replicate v 0) (length xs) refl)
      ∙ drop-replicate (n - length xs) v 0
      ∙ ap (λ ys. ys ++ replicate (v - (n - length xs)) 0) (sym (drop_all n xs (omega (arith, past))))
  | inr low ↦
      let none : v - (n - length xs) ≡ v = omega (arith, low) in
      drop-append-le n xs (replicate v 0) low ∙ ap (λ m. drop n xs ++ replicate m 0) (sym none)
]

-- ---- reads

-- what is read of some bytes is read of those with zeros behind
pub read_zeros : (xs : List ℕ) (z at n : ℕ) → read_from (xs ++ replicate z 0) at n ≡ read_from xs at n
read_zeros xs z at n =
    let more : ℕ = at + n - length (xs ++ replicate z 0) in
    let long = length-append xs (replicate z 0) ∙ ap (λ k. length xs + k) (length-replicate z 0) in
    sym (drop-take at n (extended (xs ++ replicate z 0) (at + n)))
    ∙ ap (λ ys. drop at (take (at + n) ys)) (append_assoc xs (replicate z 0) (replicate more 0) ∙ ap (λ ys. xs ++ ys) (replicate-append-replicate z more 0))
    ∙ ap (drop at) (take_zeros xs (at + n) (z + more) (omega (arith, long)))
    ∙ drop-take at n (extended xs (at + n))

-- what stands there is read, and then zeros
pub read_there : (xs : List ℕ) (at n : ℕ) → take (min (length xs - at) n) (drop at xs) ++ replicate (n - min (length xs - at) n) 0 ≡ read_from xs at n
read_there xs at n =
    let some : ℕ = min (length xs - at) n in
    let z : ℕ = at + n - length xs in
    let here : List ℕ = drop at xs in
    let long : length here ≡ length xs - at = length-drop at xs in
    let left : drop at (extended xs (at + n)) ≡ here ++ replicate (z - (at - length xs)) 0 = drop_in_zeros xs z at (omega arith) in
    let zeros : z - (at - length xs) ≡ n - length here = omega (arith, long) in
    let front : take n (here ++ replicate (n - length here) 0) ≡ take some here ++ replicate (n - some) 0
    = elim (cases_lt (length here) n) [
      | inl short ↦
          let all : some ≡ length here = omega (arith, short, long) in
          let sum = length_extended here n in
          take_all n (here ++ replicate (n - length here) 0) (omega (arith, sum, short))
          ∙ ap₂ (λ ys k. ys ++ replicate k 0) (sym (take_all some here (omega (arith, all)))) (ap (λ k. n - k) (sym all))
      | inr enough ↦
          let all : some ≡ n = omega (arith, enough, long) in
          let none : n - some ≡ 0 = omega (arith, all) in
          take-append-le n here (replicate (n - length here) 0) enough
          ∙ sym (append-nil (take n here))
          ∙ ap₂ (λ m k. take m here ++ replicate k 0) (sym all) (sym none)
    ] in
    sym (ap (take n) (left ∙ ap (λ k. here ++ replicate k 0) zeros) ∙ front)

-- ---- laid over

pub take_past : (front rest : List ℕ) (n : ℕ) → take (length front + n) (front ++ rest) ≡ front ++ take n rest
take_past [] rest n = ap (λ k. take k rest) (none n)
  where
    none : (a : ℕ) → 0 + a ≡ a
    none a = omega arith
take_past (x ∷ front) rest n = ap (λ xs. take xs (x ∷ (front ++ rest))) (shift (length front) n) ∙ ap (λ xs. x ∷ xs) (take_past front rest n)
  where
    shift : (a b : ℕ) → suc a + b ≡ suc (a + b)
    shift a b = omega arith

pub drop_past : (front rest : List ℕ) (n : ℕ) → drop (length front + n) (front ++ rest) ≡ drop n rest
drop_past front rest n = sym (drop-drop n (length front) (front ++ rest)) ∙ ap (drop n) (drop_at front rest (length front) refl)

-- in the middle of three lists
pub laid_in_middle : (front middle behind laid : List ℕ) (from : ℕ) → from + length laid ≤ length middle
    → laid_over (front ++ (middle ++ behind)) (length front + from) laid ≡ front ++ (laid_over middle from laid ++ behind)
laid_in_middle front middle behind laid from within =
    let fits : from ≤ length middle = omega (arith, within) in
    ap₂ (λ (xs ys : List ℕ). xs ++ (laid ++ ys))
    (take_past front (middle ++ behind) from ∙ ap (λ xs. front ++ xs) (take-append-le from middle behind fits))
    (ap (λ n. drop n (front ++ (middle ++ behind))) (shift (length front) from (length laid)) ∙ drop_past front (middle ++ behind) (from + length laid) ∙ drop-append-le (from + length laid) middle behind within)
    ∙ append_assoc front (take from middle) (laid ++ (drop (from + length laid) middle ++ behind))
    ∙ ap (λ xs. front ++ xs)
    (ap (λ xs. take from middle ++ xs) (sym (append_assoc laid (drop (from + length laid) middle) behind))
    ∙ sym (append_assoc (take from middle) (laid ++ drop (from + length laid) middle) behind))
  where
    shift : (a b c : ℕ) → a + b + c ≡ a + (b + c)
    shift a b c = omega arith

-- over all of them
pub laid_on_all : (bytes laid : List ℕ) (from : ℕ) → from + length laid ≡ length bytes → laid_over bytes from laid ≡ take from bytes ++ laid
laid_on_all bytes laid from all =
    ap (λ ys. take from bytes ++ (laid ++ ys)) (drop_all (from + length laid) bytes (omega (arith, all))) ∙ ap (λ ys. take from bytes ++ ys) (append-nil laid)

length_laid : (bytes laid : List ℕ) (at : ℕ) → at ≤ length bytes → at + length laid ≤ length (laid_over bytes at laid)
length_laid bytes laid at within =
    let first = length-append (take at bytes) (laid ++ drop (at + length laid) bytes) in
    let second = length-append laid (drop (at + length laid) bytes) in
    let third = length-take-le at bytes within in
    omega (arith, first, second, third)

-- in two steps, where the second is behind the first
pub laid_next : (bytes one other : List ℕ) (at : ℕ) → at ≤ length bytes → laid_over (laid_over bytes at one) (at + length one) other ≡ laid_over bytes at (one ++ other)
laid_next bytes one other at within =
    let long : length (take at bytes) ≡ at = length-take-le at bytes within in
    let rest : List ℕ = drop (at + length one) bytes in
    let so_long : length (take at bytes ++ one) ≡ at + length one = length-append (take at bytes) one ∙ ap (λ k. k + length one) long in
    let as_one : laid_over bytes at one ≡ (take at bytes ++ one) ++ rest = sym (append_assoc (take at bytes) one rest) in
    let front : take (at + length one) (laid_over bytes at one) ≡ take at bytes ++ one
    = ap (take (at + length one)) as_one ∙ take_at (take at bytes ++ one) rest (at + length one) so_long in
    let back : drop (at + length one + length other) (laid_over bytes at one) ≡ drop (length other) rest
    = sym (drop-drop (length other) (at + length one) (laid_over bytes at one))
    ∙ ap (λ xs. drop (length other) (drop (at + length one) xs)) as_one
    ∙ ap (drop (length other)) (drop_at (take at bytes ++ one) rest (at + length one) so_long) in
    let others : drop (at + length (one ++ other)) bytes ≡ drop (length other) rest
    = ap (λ k. drop k bytes) (ap (λ k. at + k) (length-append one other) ∙ regroup at (length one) (length other)) ∙ sym (drop-drop (length other) (at + length one) bytes) in
    ap₂ (λ (xs ys : List ℕ). xs ++ (other ++ ys)) front back
    ∙ append_assoc (take at bytes) one (other ++ drop (length other) rest)
    ∙ ap (λ xs. take at bytes ++ xs) (sym (append_assoc one other (drop (length other) rest)))
    ∙ ap (λ ys. take at bytes ++ ((one ++ other) ++ ys)) (sym others)
  where
    regroup : (a b c : ℕ) → a + (b + c) ≡ a + b + c
    regroup a b c = omega arith

-- ---- writes

pub written_some : (bytes laid : List ℕ) (at : ℕ) → 0 < length laid → written_at bytes at laid ≡ laid_over (extended bytes at) at laid
written_some bytes [] at some = absurd (omega (arith, some))
written_some bytes (x ∷ laid) at some = refl

pub reaches_place : (bytes : List ℕ) (at : ℕ) → at ≤ length (extended bytes at)
reaches_place bytes at = let long = length_extended bytes at in omega (arith, long)

pub written_twice : (bytes one other : List ℕ) (at : ℕ) → written_at (written_at bytes at one) (at + length one) other ≡ written_at bytes at (one ++ other)
written_twice bytes [] other at = ap (λ n. written_at bytes n other) (plus_none at)
written_twice bytes (x ∷ one) [] at = ap (written_at bytes at) (sym (append-nil (x ∷ one)))
written_twice bytes (x ∷ one) (y ∷ other) at =
    let all : List ℕ = laid_over (extended bytes at) at (x ∷ one) in
    ap (λ xs. laid_over xs (at + length (x ∷ one)) (y ∷ other)) (extended_enough all (at + length (x ∷ one)) (length_laid (extended bytes at) (x ∷ one) at (reaches_place bytes at)))
    ∙ laid_next (extended bytes at) (x ∷ one) (y ∷ other) at (reaches_place bytes at)

pub written_at_end : (bytes laid : List ℕ) → written_at bytes (length bytes) laid ≡ bytes ++ laid
written_at_end bytes [] = sym (append-nil bytes)
written_at_end bytes (x ∷ laid) =
    ap (λ xs. laid_over xs (length bytes) (x ∷ laid)) (extended_enough bytes (length bytes) (omega arith))
    ∙ ap₂ (λ (xs ys : List ℕ). xs ++ ((x ∷ laid) ++ ys)) (take_all (length bytes) bytes (omega arith)) (drop_all (length bytes + length (x ∷ laid)) bytes (omega arith))
    ∙ ap (λ ys. bytes ++ ys) (append-nil (x ∷ laid))

-- what was written is read
pub read_written : (bytes laid : List ℕ) (at : ℕ) → read_from (written_at bytes at laid) at (length laid) ≡ laid
read_written bytes [] at = refl
read_written bytes (x ∷ laid) at =
    let all : List ℕ = laid_over (extended bytes at) at (x ∷ laid) in
    let front : List ℕ = take at (extended bytes at) in
    let rest : List ℕ = drop (at + length (x ∷ laid)) (extended bytes at) in
    ap (λ xs. take (length (x ∷ laid)) (drop at xs)) (extended_enough all (at + length (x ∷ laid)) (length_laid (extended bytes at) (x ∷ laid) at (reaches_place bytes at)))
    ∙ ap (take (length (x ∷ laid))) (drop_at front ((x ∷ laid) ++ rest) at (length-take-le at (extended bytes at) (reaches_place bytes at)))
    ∙ take_at (x ∷ laid) rest (length (x ∷ laid)) refl

-- ---- truncations

pub length_truncated : (bytes : List ℕ) (count : ℕ) → length (truncated bytes count) ≡ count
length_truncated bytes count = length-take-le count (extended bytes count) (reaches_place bytes count)

pub front_truncated : (bytes : List ℕ) (count n : ℕ) → n ≤ count → n ≤ length bytes → take n (truncated bytes count) ≡ take n bytes
front_truncated bytes count n low there = take-take n count (extended bytes count) low ∙ take-append-le n bytes (replicate (count - length bytes) 0) there

-- the first m + n are the first m and the n behind them
pub take_split : (m n : ℕ) (xs : List ℕ) → take (m + n) xs ≡ take m xs ++ take n (drop m xs)
take_split m n xs =
    sym (take-append-drop m (take (m + n) xs)) ∙ ap₂ (λ (ys zs : List ℕ). ys ++ zs) (take-take m (m + n) xs (omega arith)) (drop-take m n xs)
