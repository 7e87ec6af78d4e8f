-- How long the rows of a pack's tables are.
use Rattle.std.proofs.Common.{◌≡◌, refl, ℕ, ◌+◌, ◌*◌, ◌/◌, Option, Some, None, List, [], ◌∷◌, length, length-append, arith}
use Rattle.std.proofs.Math.Nat.{mul-zero, mul-suc}
use Rattle.std.specs.List.{flat_map}
use Rattle.geometry.specs.declared.shape.Shape.{Shape}
use Rattle.geometry.specs.declared.owner.Summary.{Summary}
use Rattle.geometry.specs.Shape.{segment_blocks}
use Rattle.image.specs.declared.image.NodeEntry.{NodeEntry}
use Rattle.image.specs.declared.image.LogHead.{LogHead}
use Rattle.image.specs.Image.{SegmentInfo}
use Rattle.image.specs.Pack.{log_bytes, entry_bytes, segment_bytes, summary_bytes}
use Rattle.pack_tables.proofs.Bits.{length-bitmap}

pub log_long : (log : Option LogHead) → length (log_bytes log) ≡ 8
log_long None = refl
log_long (Some place) = refl

pub entry_long : (entry : NodeEntry) → length (entry_bytes entry) ≡ 8
entry_long entry = refl

pub summary_long : (summary : Summary) → length (summary_bytes summary) ≡ 8
summary_long summary = refl

pub segment_long : (shape : Shape) (info : SegmentInfo) → length (segment_bytes shape info) ≡ 12 + segment_blocks shape / 8
segment_long shape info = let e = length-bitmap (segment_blocks shape / 8) info.bits in omega arith

pub rows_long : {X : Type 0} (f : X → List ℕ) (w : ℕ) → ((x : X) → length (f x) ≡ w) → (xs : List X) → length (flat_map f xs) ≡ w * length xs
rows_long f w width [] = omega (arith, mul-zero w)
rows_long f w width (x ∷ xs) = let a = length-append (f x) (flat_map f xs) in let b = width x in let c = rows_long f w width xs in let d = mul-suc w (length xs) in omega arith
