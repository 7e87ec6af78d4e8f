-- Rows of one length lie side by side: what is put over one of them leaves the others.
use Rattle.std.proofs.Common.{◌≡◌, ◌≢◌, sym, ◌∙◌, ap, subst, ◌⊎◌, inl, inr, ⊎_elim, ℕ, ◌+◌, ◌*◌, ◌<◌, ◌≤◌, List, length, arith}
use Rattle.std.proofs.lemmas.Bool.{cases_lt}
use Rattle.std.proofs.lemmas.Nat.{row_fits}
use Rattle.device.specs.Disk.{part, Holds}
use Rattle.device.proofs.Ranges.{holds_part, holds_torn}
use Rattle.packs_journal.proofs.Pieces.{put_before, put_after}
use Rattle.checkpoint_image.specs.Kept.{row_in, IsRowPut}

-- each of n rows ends within them
pub row_ends : (k n size : ℕ) → k < n → k * size + size ≤ n * size
row_ends k n size below = row_fits k size n size below (omega arith)

pub rows_apart : (j k size : ℕ) → j ≢ k → (j * size + size ≤ k * size) ⊎ (k * size + size ≤ j * size)
rows_apart j k size apart =
    ⊎_elim (λ less. inl (row_ends j k size less)) (λ not. inr (row_ends k j size (omega (arith, not, apart)))) (cases_lt j k)

-- what is put at the place of a row
pub is_put : (base k : ℕ) (bytes old new : List ℕ) → base + k * length bytes + length bytes ≤ length old → Holds old (base + k * length bytes) bytes new
    → IsRowPut base (length bytes) k bytes old new
is_put base k bytes old new within holds = record {
  own = holds_part (base + k * size) bytes old new within holds;
  beside = λ j apart.
      ⊎_elim
      (λ before. put_before (base + k * size) bytes old new within holds (base + j * size) size (omega (arith, before)))
      (λ after. put_after (base + k * size) bytes old new within holds (base + j * size) size (omega (arith, after)))
      (rows_apart j k size apart);
  before = λ p n le. put_before (base + k * size) bytes old new within holds p n (omega (arith, le));
  behind = λ p n le. put_after (base + k * size) bytes old new within holds p n le;
  long = (holds_torn (base + k * size) bytes old new within holds).long;
}
  where
    size : ℕ
    size = length bytes
