use Rattle.std.proofs.Common.{◌≡◌, ◌+◌, ◌≤◌, vec_len, vec_capacity}
use Rattle.checkpoint_sync.specs.WrittenFiles.{AreWritten}
use Rattle.close_area.proofs.rows.own_files.Given as goal

abbrev pub invariant-files : goal.invariant-files
invariant-files g l =
    (vec_len l.files + vec_len l.locks ≡ g.V.Numbers.GeometryName.geometry.files) × AreWritten g.V.Books.BooksName.books.book g.V.Numbers.GeometryName.geometry l.files.items × (l.hand ≡ l.initial.hand)
    × (l.buffer.shape ≡ g.V.Numbers.GeometryName.geometry.shape) × (g.V.Numbers.GeometryName.geometry.files ≤ vec_capacity l.files) × (g.V.Numbers.GeometryName.geometry.files ≤ vec_capacity l.locks)

abbrev pub decreases-files : goal.decreases-files
decreases-files g l = vec_len l.locks
