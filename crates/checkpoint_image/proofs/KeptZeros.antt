-- A body of zeros spells blank rows: a number that is free, and a segment of which nothing is told, are zeros.
use Rattle.std.proofs.Common.{◌≡◌, refl, sym, ◌∙◌, ap, subst, ℕ, zero, suc, ◌+◌, ◌-◌, ◌*◌, ◌/◌, ◌%◌, ◌<◌, ◌≤◌, ◌^◌, List, [], ◌∷◌, ◌++◌, length, take, drop, replicate, arith}
use Rattle.std.specs.Prelude.{All, map}
use Rattle.std.proofs.lemmas.List.{length-replicate, take-replicate, drop-replicate}
use Rattle.geometry.specs.declared.geometry.Geometry.{Geometry}
use Rattle.geometry.specs.declared.shape.Shape.{Shape}
use Rattle.geometry.specs.declared.shape.Shape.TheVariants.{Tiny, Kernel}
use Rattle.geometry.specs.Shape.{segment_blocks}
use Rattle.byteorder.specs.Endian.{little_bytes}
use Rattle.device.specs.Disk.{part}
use Rattle.image.specs.Pack.{body_bytes, bitmap, segment_bytes, entry_bytes}
use Rattle.rights_books.specs.RowAccounts.{RowView}
use Rattle.rights_books.specs.RowRules.{blank}
use Rattle.checkpoint_image.specs.Kept.{IsKeptBody, IsSegmentIn, IsEntryIn, IsSmallRow, row_at, row_in, info_bytes, owners_bytes, infos_at, owners_at, info_of, owners_of, entry_of}
use Rattle.checkpoint_image.proofs.RowPlaces.{row_ends}

part_zeros : (at n m : ℕ) → at + n ≤ m → part at n (replicate m 0) ≡ replicate n 0
part_zeros at n m le = ap (take {A = ℕ} n) (drop-replicate {X = ℕ} at m 0) ∙ take-replicate {X = ℕ} n (m - at) 0 (omega arith)

no_bits : (n : ℕ) → bitmap n [] ≡ replicate n 0
no_bits zero = refl
no_bits (suc n) = ap (λ (l : List ℕ). 0 ∷ l) (no_bits n)

twelve : (n : ℕ) → (little_bytes 4 0 ++ little_bytes 8 0) ++ replicate n 0 ≡ replicate (12 + n) 0
twelve n = ap (λ (m : ℕ). replicate {A = ℕ} m 0) twelve_more
  where
    twelve_more : suc (suc (suc (suc (suc (suc (suc (suc (suc (suc (suc (suc n))))))))))) ≡ 12 + n
    twelve_more = omega arith

blank_segment : (shape : Shape) → segment_bytes shape (info_of blank) ≡ replicate (info_bytes shape) 0
blank_segment shape = ap (λ (l : List ℕ). (little_bytes 4 0 ++ little_bytes 8 0) ++ l) (no_bits (segment_blocks shape / 8)) ∙ twelve (segment_blocks shape / 8)

blank_small : IsSmallRow blank
blank_small = record { count = omega arith; mtime = omega arith; owners = λ k d low. absurd (omega arith) }

some_blocks : (shape : Shape) → 0 ≡ segment_blocks shape → ⊥
some_blocks Tiny none = omega (arith, none)
some_blocks Kernel none = omega (arith, none)

module _ (geometry : Geometry) (parts : List RowView) (are : (k : ℕ) → row_at parts k ≡ blank) where
  abbrev zeros : List ℕ
  zeros = replicate (body_bytes geometry) 0

  pub zeros_kept : IsKeptBody geometry parts zeros
  zeros_kept = record {
    long = length-replicate (body_bytes geometry) 0;
    entries = λ k below.
        part_zeros (56 + k * 8) 8 (body_bytes geometry) (omega (arith, below))
        ∙ sym (ap (λ row. entry_bytes (entry_of row (k + 1))) (are (geometry.segments + (k + 1) % 16)));
    segments = λ k below. subst (IsSegmentIn geometry zeros k) (sym (are k))
        (record {
          info =
              let ends = row_ends k geometry.segments (info_bytes geometry.shape) below in
              part_zeros (infos_at geometry + k * info_bytes geometry.shape) (info_bytes geometry.shape) (body_bytes geometry) (omega (arith, ends))
              ∙ sym (blank_segment geometry.shape);
          owners = λ long. absurd (some_blocks geometry.shape long);
          small = blank_small;
        });
  }
