-- A number whose file was taken.
use Rattle.std.proofs.Common.{◌≡◌, None, sym, subst}
use Rattle.atomic_table.specs.Seated.{TableId}
use Rattle.geometry.specs.declared.geometry.Geometry.{Geometry}
use Rattle.checkpoint_sync.specs.FileParts.{IsFlushedOrNone}
use Rattle.file_cells.specs.Cell.{CellView, IsLawfulCell, Keeps}
use Rattle.checkpoint_sync.specs.WrittenFiles.{IsWrittenCell}

-- no node of it is to be written
pub none_written : {B L : Type 0} (book : TableId) (geometry : Geometry) (c : CellView B L) → IsLawfulCell book geometry c → c.state ≡ None → IsWrittenCell book geometry c
none_written book geometry c law none = record {
  lawful = law;
  flushed =
      let kept = subst (Keeps geometry c.number c.account) none law.keeps in
      subst (IsFlushedOrNone geometry c.account.inode c.account) (sym none) (kept.0, kept.1);
}
