-- A file in its lock while a checkpoint is taken (Linux filesystems/f2fs, checkpoint: dirty nodes are written first).
use Rattle.std.specs.Prelude.{◌≡◌, ℕ, ◌+◌, List, Some, slice_get}
use Rattle.atomic_table.specs.Seated.{TableId}
use Rattle.geometry.specs.declared.geometry.Geometry.{Geometry}
use Rattle.checkpoint_sync.specs.FileParts.{IsFlushedOrNone}
use Rattle.file_cells.specs.Cell.{CellView, IsLawfulCell}

-- it keeps its law, and each of its nodes has a block that spells it
pub record IsWrittenCell {B L : Type 0} (book : TableId) (geometry : Geometry) (c : CellView B L) : Type 0 where
  pub lawful : IsLawfulCell book geometry c
  pub flushed : IsFlushedOrNone geometry c.account.inode c.account c.state

-- such files, from inode 1 on
abbrev pub AreWritten : {B L : Type 0} → TableId → Geometry → List (CellView B L) → Type 0
AreWritten {B} {L} book geometry files = (k : ℕ) (c : CellView B L) → slice_get files k ≡ Some c → (c.number ≡ k + 1) × IsWrittenCell book geometry c
