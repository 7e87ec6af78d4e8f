use Rattle.std.proofs.Common.{◌≡◌, ◌≤◌, vec_len, vec_capacity}
use Rattle.checkpoint_sync.specs.LocksHeld.{AreHeldSegments}
use Rattle.checkpoint_image.specs.Kept.{AreSegmentParts}
use Rattle.checkpoint_sync.proofs.locking.lock_segments.Given as goal

abbrev pub invariant-loop-number : goal.invariant-loop-number
invariant-loop-number g l = record {
  count : vec_len l.segments ≡ l.number;
  room : g.V.Numbers.GeometryName.geometry.segments ≤ vec_capacity l.segments;
  are : AreHeldSegments g.V.Numbers.GeometryName.geometry g.V.Books.BooksName.books.book g.V.Words.WordsName.words l.segments.items;
  parts : AreSegmentParts g.V.Books.BooksName.rows l.segments.items;
}
