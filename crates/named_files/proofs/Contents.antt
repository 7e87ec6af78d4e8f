-- What a write and a cut do to the bytes of a file's first blocks.
use Rattle.std.proofs.Common.{◌≡◌, ◌∙◌, ◌+◌, ◌-◌, ◌++◌, ◌<◌, ◌≤◌, ℕ, suc, List, [], min, replicate, length, ap, ap₂, sym, refl, add-one, inl, inr, ◌⊎◌, arith}
use Rattle.std.proofs.lemmas.Bool.{cases_lt}
use Rattle.std.proofs.lemmas.List.{append_assoc, append-nil, length-append}
use Rattle.geometry.specs.File.{File, Block, written, cut_to}
use Rattle.image_reading.specs.Content.{front_bytes}
use Rattle.byte_files.proofs.Blocks.{at_written, front_cut, front_written}
use Rattle.byte_files.specs.Bytes.{HasBytes}
use Rattle.named_files.specs.Content.{IsBlockSet}

-- so many blocks of the file are written, and these bytes are left
pub record Writing (size : ℕ) (bytes rest : List ℕ) (file : File) (index : ℕ) : Type 0 where
  pub reaches : index ≤ file.length
  pub zeros : ℕ
  pub in_last_block : zeros < size
  pub at_the_end : 0 < length rest → zeros ≡ 0
  pub spelled : front_bytes size file index ++ rest ≡ bytes ++ replicate zeros 0

pub writing_begins : (size : ℕ) (bytes : List ℕ) (file : File) → 0 < size → Writing size bytes bytes file 0
writing_begins size bytes file some = record {
  reaches = omega arith;
  zeros = 0;
  in_last_block = some;
  at_the_end = λ _. refl;
  spelled = sym (append-nil bytes);
}

-- a block that is written is set
pub block_written : (size : ℕ) (file : File) (index : ℕ) (block : Block) → index ≤ file.length → IsBlockSet size index block file (written file index block)
block_written size file index block reaches = record {
  reaches = omega arith;
  here = at_written size file index block;
  front = λ n few. front_written size file index block n few;
}

-- a block is set, which begins with what was left in front
pub writing_goes_on : (size : ℕ) (bytes rest front behind block : List ℕ) (file after : File) (index : ℕ) → Writing size bytes rest file index
    → IsBlockSet size index block file after
    → rest ≡ front ++ behind → 0 < length front → length front ≤ size → (length front < size → behind ≡ []) → block ≡ front ++ replicate (size - length front) 0
    → Writing size bytes behind after (index + 1)
writing_goes_on size bytes rest front behind block file after index writing set cut some fits last is = record {
  reaches = let below = set.reaches in omega arith;
  zeros = size - length front;
  in_last_block = omega arith;
  at_the_end = λ more. elim (cases_lt (length front) size) [
    | inl short ↦ let none : length behind ≡ 0 = ap length (last short) in absurd (omega arith)
    | inr full ↦ omega arith
  ];
  spelled =
      ap (λ ys. ys ++ behind)
      (ap (front_bytes size after) (add-one index)
      ∙ ap₂ (λ (xs ys : List ℕ). xs ++ ys) (set.front index (omega arith)) (set.here ∙ is))
      ∙ moved (cases_lt (length front) size);
}
  where
    so_far : front_bytes size file index ++ (front ++ behind) ≡ bytes
    so_far =
        let long : 0 < length rest = let sum = ap length cut ∙ length-append front behind in omega arith in
        ap (λ ys. front_bytes size file index ++ ys) (sym cut) ∙ writing.spelled ∙ ap (λ n. bytes ++ replicate n 0) (writing.at_the_end long) ∙ append-nil bytes

    moved : (length front < size) ⊎ (size ≤ length front)
        → front_bytes size file index ++ (front ++ replicate (size - length front) 0) ++ behind ≡ bytes ++ replicate (size - length front) 0
    moved (inl short) =
        ap (λ ys. front_bytes size file index ++ (front ++ replicate (size - length front) 0) ++ ys) (last short)
        ∙ append-nil (front_bytes size file index ++ (front ++ replicate (size - length front) 0))
        ∙ sym (append_assoc (front_bytes size file index) front (replicate (size - length front) 0))
        ∙ ap (λ ys. ys ++ replicate (size - length front) 0)
        (sym (append-nil (front_bytes size file index ++ front)) ∙ append_assoc (front_bytes size file index) front [] ∙ ap (λ ys. front_bytes size file index ++ (front ++ ys)) (sym (last short)) ∙ so_far)
    moved (inr full) =
        let none : size - length front ≡ 0 = omega arith in
        ap (λ n. front_bytes size file index ++ (front ++ replicate n 0) ++ behind) none
        ∙ ap (λ ys. front_bytes size file index ++ ys ++ behind) (append-nil front)
        ∙ append_assoc (front_bytes size file index) front behind
        ∙ so_far
        ∙ sym (append-nil bytes)
        ∙ ap (λ n. bytes ++ replicate n 0) (sym none)

-- nothing is left, and the file is cut behind what was written
pub writing_ends : (size : ℕ) (bytes rest : List ℕ) (file : File) (index : ℕ) → Writing size bytes rest file index → rest ≡ []
    → HasBytes size bytes (cut_to file index)
writing_ends size bytes rest file index writing none = record {
  zeros = writing.zeros;
  in_last_block = writing.in_last_block;
  spelled =
      let long : min index file.length ≡ index = let reaches = writing.reaches in omega arith in
      ap (front_bytes size (cut_to file index)) long
      ∙ front_cut size file index index (omega arith)
      ∙ sym (append-nil (front_bytes size file index))
      ∙ ap (λ ys. front_bytes size file index ++ ys) (sym none)
      ∙ writing.spelled;
}
