-- What a file's bytes are once it was cut, or got more blocks.
use Rattle.std.proofs.Common.{◌≡◌, ◌∙◌, ◌+◌, ◌-◌, ◌*◌, ◌++◌, ◌<◌, ◌≤◌, ℕ, suc, List, max, replicate, length, take, drop, ap, ap₂, sym, add-one, inl, inr, arith}
use Rattle.std.proofs.lemmas.Bool.{cases_lt}
use Rattle.std.proofs.lemmas.List.{append_assoc, append-nil, length-append, length-replicate, replicate-append-replicate, take_at, take-append-le, take-append-drop, drop_all}
use Rattle.geometry.specs.File.{File, Block, bytes_at, written, cut_to}
use Rattle.file_cells.specs.Pass.{AreWhole, AreWithin}
use Rattle.flash_volume.specs.Answers.{laid_over}
use Rattle.image_reading.specs.Content.{all_bytes, front_bytes}
use Rattle.byte_files.specs.Bytes.{HasBytes, truncated}
use Rattle.byte_files.specs.Calls.{IsTruncated}
use Rattle.byte_files.proofs.Lists.{take_zeros, drop_in_zeros, take_past, laid_on_all}
use Rattle.byte_files.proofs.Blocks.{all_cut, at_long, at_past, at_written, behind, front_past, front_written, length_front, split_at}

-- how many bytes the blocks have
pub length_all : (size : ℕ) (bytes : List ℕ) (file : File) (has : HasBytes size bytes file) → AreWhole size file → length bytes + has.zeros ≡ file.length * size
length_all size bytes file has whole =
    sym (ap length has.spelled ∙ length-append bytes (replicate has.zeros 0) ∙ ap (λ n. length bytes + n) (length-replicate has.zeros 0)) ∙ length_front size file whole file.length

-- the bytes in front are left, and zeros to the end of their last block
is_truncated : (size count total w : ℕ) (bytes : List ℕ) (new : File) → count ≤ length bytes + w → total < count + size
    → all_bytes size new ≡ take count (bytes ++ replicate w 0) ++ replicate (total - count) 0 → 0 < size → HasBytes size (truncated bytes count) new
is_truncated size count total w bytes new enough near is some = record {
  zeros = total - count;
  in_last_block = omega (arith, near, some);
  spelled = is ∙ ap (λ ys. ys ++ replicate (total - count) 0) (take_zeros bytes count w enough);
}

module _ (size : ℕ) (old : File) (whole : AreWhole size old) (inside : AreWithin old) (some : 0 < size) where
  -- a block of zeros was written past the end
  grown : (index k : ℕ) → old.length ≤ index → index + 1 ≡ old.length + k → all_bytes size (written old index (replicate size 0)) ≡ all_bytes size old ++ replicate (k * size) 0
  grown index k high sum =
      let zeros : Block = replicate size 0 in
      let longer : max old.length (index + 1) ≡ suc index = omega (arith, high) in
      let last : suc index ≡ old.length + k = omega (arith, sum) in
      ap (front_bytes size (written old index zeros)) longer
      ∙ ap₂ (λ (xs ys : List ℕ). xs ++ ys) (front_written size old index zeros index (omega arith)) (at_written size old index zeros ∙ sym (at_past size old inside index high))
      ∙ ap (front_bytes size old) last
      ∙ front_past size old inside k

  pub truncated_longer : (count index : ℕ) → old.length ≤ index → count ≤ (index + 1) * size → index * size < count → IsTruncated size count old (written old index (replicate size 0))
  truncated_longer count index high within reached bytes has =
      let k : ℕ = index + 1 - old.length in
      let w : ℕ = has.zeros + k * size in
      let total : ℕ = (index + 1) * size in
      let new : File = written old index (replicate size 0) in
      let sum : index + 1 ≡ old.length + k = omega (arith, high) in
      let long : length bytes + has.zeros ≡ old.length * size = length_all size bytes old has whole in
      let total_is : total ≡ length bytes + w = ends (length bytes) has.zeros old.length k (index + 1) size long sum in
      let past : length bytes ≤ count = behind_all (length bytes) has.zeros old.length index size count long high reached in
      let all : all_bytes size new ≡ bytes ++ replicate w 0
      = grown index k high sum ∙ ap (λ xs. xs ++ replicate (k * size) 0) has.spelled ∙ append_assoc bytes (replicate has.zeros 0) (replicate (k * size) 0)
      ∙ ap (λ xs. bytes ++ xs) (replicate-append-replicate has.zeros (k * size) 0) in
      let left : w - (count - length bytes) ≡ total - count = omega (arith, total_is, past) in
      let rest : drop count (bytes ++ replicate w 0) ≡ replicate (total - count) 0
      = drop_in_zeros bytes w count (omega (arith, total_is, within)) ∙ ap (λ ys. ys ++ replicate (w - (count - length bytes)) 0) (drop_all count bytes past) ∙ ap (λ n. replicate n 0) left in
      is_truncated size count total w bytes new (omega (arith, total_is, within)) (ends_near index size count reached)
      (all ∙ sym (take-append-drop count (bytes ++ replicate w 0)) ∙ ap (λ ys. take count (bytes ++ replicate w 0) ++ ys) rest) some
    where
      ends : (b z l k n s : ℕ) → b + z ≡ l * s → n ≡ l + k → n * s ≡ b + (z + k * s)
      ends b z l k n s one two = ap (λ m. m * s) two ∙ sums l k s ∙ ap (λ m. m + k * s) (sym one) ∙ groups b z (k * s)
        where
          sums : (a b s : ℕ) → (a + b) * s ≡ a * s + b * s
          sums a b s = omega arith

          groups : (a b c : ℕ) → a + b + c ≡ a + (b + c)
          groups a b c = omega arith

      behind_all : (b z l i s c : ℕ) → b + z ≡ l * s → l ≤ i → i * s < c → b ≤ c
      behind_all b z l i s c one low reached =
          let d : ℕ = i - l in
          let i_is : l + d ≡ i = omega (arith, low) in
          let product : i * s ≡ l * s + d * s = ap (λ m. m * s) (sym i_is) ∙ sums l d s in
          omega (arith, one, reached, product)
        where
          sums : (a b s : ℕ) → (a + b) * s ≡ a * s + b * s
          sums a b s = omega arith

      ends_near : (i s c : ℕ) → i * s < c → (i + 1) * s < c + s
      ends_near i s c reached = omega (arith, reached)

  -- it was cut at the end of a block
  pub truncated_even : (count blocks : ℕ) → blocks ≤ old.length → blocks * size ≡ count → IsTruncated size count old (cut_to old blocks)
  truncated_even count blocks low even bytes has =
      let k : ℕ = old.length - blocks in
      let sum : old.length ≡ blocks + k = omega (arith, low) in
      let front : List ℕ = front_bytes size old blocks in
      let rest : List ℕ = behind size old blocks k in
      let front_long : length front ≡ count = length_front size old whole blocks ∙ even in
      let all : all_bytes size old ≡ front ++ rest = ap (front_bytes size old) sum ∙ split_at size old blocks k in
      let long = ap length all ∙ length-append front rest in
      let spelled = ap length has.spelled ∙ length-append bytes (replicate has.zeros 0) ∙ ap (λ n. length bytes + n) (length-replicate has.zeros 0) in
      let none : count - count ≡ 0 = omega arith in
      is_truncated size count count has.zeros bytes (cut_to old blocks) (omega (arith, long, spelled, front_long)) (omega (arith, some))
      (all_cut size old blocks low ∙ sym (take_at front rest count front_long) ∙ ap (take count) (sym all ∙ has.spelled)
      ∙ sym (append-nil (take count (bytes ++ replicate has.zeros 0))) ∙ ap (λ n. take count (bytes ++ replicate has.zeros 0) ++ replicate n 0) (sym none))
      some

  -- it was wiped from a byte of a block on, and cut behind that block
  pub truncated_wiped : (count index from : ℕ) → index < old.length → 0 < from → from < size → index * size + from ≡ count
      → IsTruncated size count old (cut_to (written old index (laid_over (bytes_at size old index) from (replicate (size - from) 0))) (index + 1))
  truncated_wiped count index from low outer inner place bytes has =
      let here : Block = bytes_at size old index in
      let zeros : List ℕ = replicate (size - from) 0 in
      let wiped : File = written old index (laid_over here from zeros) in
      let k : ℕ = old.length - index - 1 in
      let sum : old.length ≡ index + suc k = omega (arith, low) in
      let front : List ℕ = front_bytes size old index in
      let rest : List ℕ = behind size old (index + 1) k in
      let front_long : length front ≡ index * size = length_front size old whole index in
      let here_long : length here ≡ size = at_long size old whole index in
      let on_all : from + length zeros ≡ length here = ap (λ n. from + n) (length-replicate (size - from) 0) ∙ there from size inner ∙ sym here_long in
      let all : all_bytes size old ≡ front ++ (here ++ rest) = ap (front_bytes size old) sum ∙ split_at size old index (suc k) in
      let taken : take count (all_bytes size old) ≡ front ++ take from here
      = ap₂ (λ n xs. take n xs) (sym (ap (λ n. n + from) front_long ∙ place)) all ∙ take_past front (here ++ rest) from ∙ ap (λ ys. front ++ ys) (take-append-le from here rest (omega (arith, inner, here_long))) in
      let long = ap length all ∙ length-append front (here ++ rest) ∙ ap (λ n. length front + n) (length-append here rest) in
      let spelled = ap length has.spelled ∙ length-append bytes (replicate has.zeros 0) ∙ ap (λ n. length bytes + n) (length-replicate has.zeros 0) in
      let total : ℕ = (index + 1) * size in
      let left : size - from ≡ total - count = gap index size from count place in
      let cut : all_bytes size (cut_to wiped (index + 1)) ≡ front ++ (take from here ++ zeros)
      = all_cut size wiped (index + 1) (omega arith) ∙ ap (front_bytes size wiped) (add-one index)
      ∙ ap₂ (λ (xs ys : List ℕ). xs ++ ys) (front_written size old index (laid_over here from zeros) index (omega arith)) (at_written size old index (laid_over here from zeros) ∙ laid_on_all here zeros from on_all) in
      is_truncated size count total has.zeros bytes (cut_to wiped (index + 1)) (omega (arith, long, spelled, front_long, here_long, inner, place)) (near index size from count place outer)
      (cut ∙ sym (append_assoc front (take from here) zeros) ∙ ap₂ (λ ys n. ys ++ replicate n 0) (sym taken ∙ ap (take count) has.spelled) left)
      some
    where
      there : (f s : ℕ) → f < s → f + (s - f) ≡ s
      there f s less = omega (arith, less)

      gap : (i s f c : ℕ) → i * s + f ≡ c → s - f ≡ (i + 1) * s - c
      gap i s f c is = omega (arith, is)

      near : (i s f c : ℕ) → i * s + f ≡ c → 0 < f → (i + 1) * s < c + s
      near i s f c is positive = omega (arith, is, positive)

-- the last byte lies in the last block that bytes lie in
pub in_last : (blocks from size count : ℕ) → (from ≡ 0 → blocks * size ≡ count) → (0 < from → (0 < blocks) × ((blocks - 1) * size + from ≡ count)) → from < size → 0 < blocks
    → ((blocks - 1) * size < count) × (count ≤ (blocks - 1 + 1) * size)
in_last blocks from size count full part within some = elim (cases_lt 0 from) [
  | inl more ↦ behind (blocks - 1) from size count (part more).1 more within
  | inr none ↦
      let again : blocks - 1 + 1 ≡ blocks = omega (arith, some) in
      whole (blocks - 1) size count (ap (λ n. n * size) again ∙ full (omega (arith, none))) (omega (arith, within))
]
  where
    behind : (k f s c : ℕ) → k * s + f ≡ c → 0 < f → f < s → (k * s < c) × (c ≤ (k + 1) * s)
    behind k f s c is more less = (omega (arith, is, more), omega (arith, is, less))

    whole : (k s c : ℕ) → (k + 1) * s ≡ c → 0 < s → (k * s < c) × (c ≤ (k + 1) * s)
    whole k s c is positive = (omega (arith, is, positive), omega (arith, is))
