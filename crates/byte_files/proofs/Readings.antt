-- What was read, part by part, and then zeros.
use Rattle.std.proofs.Common.{◌≡◌, ◌∙◌, ◌+◌, ◌-◌, ◌*◌, ◌++◌, ◌<◌, ◌≤◌, ℕ, List, min, replicate, length, take, drop, ap, ap₂, sym, inl, inr, arith}
use Rattle.std.proofs.Math.Nat.{mul-le-mul_right}
use Rattle.std.proofs.lemmas.Bool.{cases_lt}
use Rattle.std.proofs.lemmas.List.{append-nil, drop-drop, drop_all, drop_at, length-append, length-take-le}
use Rattle.std.proofs.lemmas.Slice.{take-put_mid}
use borrow.Rule.Slice.PartMut.{put_mid}
use Rattle.geometry.specs.File.{File}
use Rattle.file_cells.specs.Pass.{AreWhole, AreWithin}
use Rattle.flash_volume.specs.Answers.{block_of}
use Rattle.image_reading.specs.Content.{all_bytes}
use Rattle.byte_files.specs.Bytes.{HasBytes, read_from}
use Rattle.byte_files.proofs.Lists.{read_there, read_zeros, take_split}
use Rattle.byte_files.proofs.Blocks.{block_of_is, in_block, length_front}

-- a place in front of the end lies in a block below the length
pub below_length : (index count size place : ℕ) → index * size ≤ place → place < count * size → index < count
below_length index count size place low past = elim (cases_lt index count) [
  | inl less ↦ less
  | inr high ↦ let more : count * size ≤ index * size = mul-le-mul_right size high in absurd (omega (arith, more, low, past))
]

-- a part was read behind those before
pub part_read : (size : ℕ) (file : File) (out piece : List ℕ) (at done count index from m : ℕ) → AreWhole size file → AreWithin file
    → index < file.length → index * size + from ≡ at + done → from + count ≤ size → length piece ≡ count → done ≤ length out
    → take done out ≡ take done (drop at (all_bytes size file)) → piece ≡ take count (drop from (block_of size file index))
    → take (done + count) (put_mid done m out piece) ≡ take (done + count) (drop at (all_bytes size file))
part_read size file out piece at done count index from m whole inside low here fits long within so_far is =
    let all : List ℕ = all_bytes size file in
    let next : piece ≡ take count (drop done (drop at all))
    = is ∙ ap (λ b. take count (drop from b)) (block_of_is size file inside index) ∙ sym (in_block size file whole index from count low fits)
    ∙ ap (λ n. take count (drop n all)) here ∙ ap (take count) (sym (drop-drop done at all)) in
    take-put_mid done m out piece (done + count) (ap (λ n. done + n) (sym long)) within
    ∙ ap₂ (λ (xs ys : List ℕ). xs ++ ys) so_far next
    ∙ sym (take_split done count (drop at all))

-- what was put behind the front of a list is the rest of it
pub put_behind : (a k : ℕ) (xs ys : List ℕ) → a + k ≡ length xs → drop a (put_mid a k xs ys) ≡ ys
put_behind a k xs ys all =
    let long : length (take a xs) ≡ a = length-take-le a xs (omega (arith, all)) in
    drop_at (take a xs) (ys ++ drop k (drop a xs)) a long ∙ ap (λ zs. ys ++ zs) (drop-drop k a xs ∙ drop_all (a + k) xs (omega (arith, all))) ∙ append-nil ys

pub front_long : (a k : ℕ) (xs ys : List ℕ) → a ≤ length xs → length (take a (put_mid a k xs ys)) ≡ a
front_long a k xs ys within =
    let long = length-append (take a xs) (ys ++ drop k (drop a xs)) in
    let front = length-take-le a xs within in
    length-take-le a (put_mid a k xs ys) (omega (arith, long, front))

-- what the blocks hold was read, and zeros stand behind it
pub all_read : (size : ℕ) (file : File) (at n count : ℕ) (bytes front rest : List ℕ) → AreWhole size file → HasBytes size bytes file
    → count ≡ min (file.length * size - at) n → front ≡ take count (drop at (all_bytes size file)) → rest ≡ replicate (n - count) 0 → front ++ rest ≡ read_from bytes at n
all_read size file at n count bytes front rest whole has few first last =
    let all : List ℕ = all_bytes size file in
    let least : count ≡ min (length all - at) n = few ∙ ap (λ k. min (k - at) n) (sym (length_front size file whole file.length)) in
    ap₂ (λ (xs ys : List ℕ). xs ++ ys) first last
    ∙ ap (λ k. take k (drop at all) ++ replicate (n - k) 0) least
    ∙ read_there all at n
    ∙ ap (λ xs. read_from xs at n) has.spelled
    ∙ read_zeros bytes has.zeros at n
