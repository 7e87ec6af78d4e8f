use Rattle.std.proofs.Common.{take}
use Rattle.checkpoint_sync.specs.WrittenFiles.{AreWritten}
use Rattle.close_area.proofs.telling.tell_written.Given as goal

abbrev pub invariant-loop-k : goal.invariant-loop-k
invariant-loop-k g l = AreWritten g.V.Books.BooksName.books.book g.V.Numbers.GeometryName.geometry (take l.k l.fn.files.items)
