-- What is seen of a file in its lock.
use Rattle.std.proofs.Common.{◌≡◌, ℕ, ◌+◌, List, [], ◌∷◌, ◌++◌, Some, length, sym, subst, inl, inr}
use Rattle.std.specs.Prelude.{slice_get}
use Rattle.atomic_table.specs.Seated.{TableId}
use Rattle.rights_books.proofs.Dealing.{slice_get_push}
use Rattle.geometry.specs.declared.geometry.Geometry.{Geometry}
use Rattle.file_cells.specs.Cell.{CellView}
use Rattle.checkpoint_sync.specs.WrittenFiles.{IsWrittenCell, AreWritten}

-- one more file
pub one_more : {B L : Type 0} (book : TableId) (geometry : Geometry) (files : List (CellView B L)) (c : CellView B L) → AreWritten book geometry files
    → c.number ≡ length files + 1 → IsWrittenCell book geometry c → AreWritten book geometry (files ++ c ∷ [])
one_more {B} {L} book geometry files c were number written k x at = elim (slice_get_push files c k x at) [
  | inl before ↦ were k x before
  | inr (last, same) ↦
      subst (λ (y : CellView B L). (y.number ≡ k + 1) × IsWrittenCell book geometry y) same
      (subst (λ n. c.number ≡ n + 1) (sym last) number, written)
]
