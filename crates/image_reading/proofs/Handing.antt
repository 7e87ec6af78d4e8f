-- A file's blocks are read into a piece, one behind the other, and pieces are handed out, one behind the other.
use Rattle.std.proofs.Common.{◌≡◌, ◌∙◌, ◌+◌, ◌-◌, ◌*◌, ◌^◌, ◌++◌, ◌<◌, ◌≤◌, ℕ, zero, suc, List, [], ◌∷◌, Option, Some, None, OnOk, Result, Ok, Err, min, length, take, ap, ap₂, sym, subst, arith}
use Rattle.std.proofs.Math.Nat.{add-mul, mul-le-mul_right, one-mul, zero-mul}
use Rattle.std.proofs.lemmas.List.{append-nil, append_assoc, length-append, take_all, take_min}
use Rattle.std.proofs.lemmas.Slice.{take-put_mid}
use Rattle.std.specs.Io.KnownBytes.{Appends}
use borrow.Rule.Slice.PartMut.{put_mid}
use Rattle.geometry.specs.File.{File, bytes_at}
use Rattle.image_reading.specs.Content.{front_bytes}

next_place : (k size : ℕ) → (k + 1) * size ≡ k * size + size
next_place k size = add-mul k 1 size ∙ ap (λ m. k * size + m) (one-mul size)

-- a block that is not the last ends within
pub block_within : (k count size : ℕ) → k < count → k * size + size ≤ count * size
block_within k count size low =
    let next : (k + 1) * size ≤ count * size = mul-le-mul_right size (omega arith) in
    let sum = next_place k size in
    omega (arith, next, sum)

-- a block was read behind those that were
pub block_read : (size s : ℕ) (file : File) (first index : ℕ) (before block : List ℕ) → s ≡ size → first ≤ index → (index - first) * size ≤ length before
    → front_bytes size file first ++ take ((index - first) * size) before ≡ front_bytes size file index
    → length block ≡ s → block ≡ bytes_at size file index
    → front_bytes size file first ++ take ((index + 1 - first) * size) (put_mid ((index - first) * s) ((index - first) * s + s - (index - first) * s) before block)
    ≡ front_bytes size file (index + 1)
block_read size s file first index before block same low within so_far long is =
    let k = index - first in
    let next : index + 1 - first ≡ k + 1 = omega arith in
    let end : (index + 1 - first) * size ≡ k * size + size = ap (λ n. n * size) next ∙ next_place k size in
    let last : index + 1 ≡ suc index = omega arith in
    let behind : k * size + size ≡ k * size + length block = omega (arith, long, same) in
    subst
    (λ t. front_bytes size file first ++ take ((index + 1 - first) * size) (put_mid (k * t) (k * t + t - k * t) before block) ≡ front_bytes size file (index + 1))
    (sym same)
    (ap (λ n. front_bytes size file first ++ take n (put_mid (k * size) (k * size + size - k * size) before block)) end
    ∙ ap (λ ys. front_bytes size file first ++ ys) (take-put_mid (k * size) (k * size + size - k * size) before block (k * size + size) behind within)
    ∙ sym (append_assoc (front_bytes size file first) (take (k * size) before) block)
    ∙ ap₂ (λ (xs ys : List ℕ). xs ++ ys) so_far is
    ∙ sym (ap (front_bytes size file) last))

-- the front of two lists
take_over : (n : ℕ) (xs ys : List ℕ) → take n (xs ++ ys) ≡ take n xs ++ take (n - length xs) ys
take_over zero xs ys = let none : 0 - length xs ≡ 0 = omega arith in sym (ap (λ m. take m ys) none)
take_over (suc n) [] ys = let all : suc n - 0 ≡ suc n = omega arith in sym (ap (λ m. take m ys) all)
take_over (suc n) (x ∷ xs) ys =
    let less : n - length xs ≡ suc n - length (x ∷ xs) = omega arith in
    ap (λ zs. x ∷ zs) (take_over n xs ys ∙ ap (λ m. take n xs ++ take m ys) less)

appends_nothing : (known : Option (List ℕ)) → Appends known known []
appends_nothing None = tt
appends_nothing (Some xs) = sym (append-nil xs)

appends_more : (first then last : Option (List ℕ)) (xs ys : List ℕ) → Appends first then xs → Appends then last ys → Appends first last (xs ++ ys)
appends_more None then last xs ys one other = tt
appends_more (Some known) None last xs ys one other = absurd one
appends_more (Some known) (Some more) None xs ys one other = absurd other
appends_more (Some known) (Some more) (Some all) xs ys one other = other ∙ ap (λ zs. zs ++ ys) one ∙ append_assoc known xs ys

-- so many blocks are read, and so many bytes of those that are wanted are left
pub record Handing (size most : ℕ) (file : File) (index left : ℕ) (first now : Option (List ℕ)) : Type 0 where
  pub reaches : index ≤ file.length
  pub long : length (front_bytes size file index) ≡ index * size
  pub counted : left + min most (index * size) ≡ most
  pub handed : Appends first now (take most (front_bytes size file index))

pub handing_begins : (size most : ℕ) (file : File) (first : Option (List ℕ)) → Handing size most file 0 most first first
handing_begins size most file first =
    let none : 0 * size ≡ 0 = zero-mul size in
    record {
      reaches = omega arith;
      long = sym none;
      counted = omega (arith, none);
      handed = subst (Appends first first) (sym (take_all most [] (omega arith))) (appends_nothing first);
    }

-- a piece was read and handed out
pub handing_goes_on : (size most : ℕ) (file : File) (index end left : ℕ) (piece : List ℕ) (first before after : Option (List ℕ))
    → Handing size most file index left first before → index ≤ end → end ≤ file.length → length piece ≡ (end - index) * size
    → front_bytes size file index ++ piece ≡ front_bytes size file end
    → Appends before after (take (min left (length piece)) piece)
    → Handing size most file end (left - min left (length piece)) first after
handing_goes_on size most file index end left piece first before after handing order within long read given =
    let front = front_bytes size file index in
    let was = handing.long in
    let counted = handing.counted in
    let sum : index + (end - index) ≡ end = omega arith in
    let product : end * size ≡ index * size + (end - index) * size = ap (λ n. n * size) (sym sum) ∙ add-mul index (end - index) size in
    let left_is : most - length front ≡ left = omega (arith, was, counted) in
    let taken : take most (front_bytes size file end) ≡ take most front ++ take (min left (length piece)) piece
    = ap (take most) (sym read) ∙ take_over most front piece ∙ ap (λ n. take most front ++ take n piece) left_is ∙ ap (λ ys. take most front ++ ys) (sym (take_min left piece)) in
    let all : length (front_bytes size file end) ≡ length front + length piece = sym (ap length read) ∙ length-append front piece in
    record {
      reaches = within;
      long = omega (arith, all, was, long, product);
      counted = omega (arith, counted, long, product);
      handed = subst (Appends first after) (sym taken) (appends_more first before after (take most front) (take (min left (length piece)) piece) handing.handed given);
    }

-- what was handed out, of all bytes there are
pub all_handed : (first now : Option (List ℕ)) (most : ℕ) (all : List ℕ) → length all < 2 ^ 64 → 2 ^ 64 ≤ most + 1 → Appends first now (take most all) → Appends first now all
all_handed first now most all few many given = subst (Appends first now) (take_all most all (omega arith)) given

-- what holds where something was answered Ok
pub both_ok : {T E : Type 0} (r : Result T E) (P Q S : Type 0) → (P → Q → S) → OnOk r P → OnOk r Q → OnOk r S
both_ok (Ok x) P Q S so one other = so one other
both_ok (Err e) P Q S so one other = tt
