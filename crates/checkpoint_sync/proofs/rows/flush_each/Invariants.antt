use Rattle.std.proofs.Common.{◌≡◌, ◌+◌, ◌≤◌, length, vec_len, vec_capacity}
use Rattle.rights_permits.specs.Turns.{at_home}
use Rattle.checkpoint_sync.specs.WrittenFiles.{AreWritten}
use Rattle.checkpoint_sync.proofs.rows.flush_each.Given as goal

abbrev pub invariant-loop-index : goal.invariant-loop-index
invariant-loop-index g l =
    (length l.held.items ≡ l.index) × AreWritten g.V.Books.BooksName.books.book g.V.Numbers.GeometryName.geometry l.held.items × (l.hand ≡ l.fn.hand)
    × (l.buffer.shape ≡ g.V.Numbers.GeometryName.geometry.shape) × (vec_len l.fn.files ≤ vec_capacity l.held)
