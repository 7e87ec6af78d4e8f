use Rattle.std.proofs.Common.{◌≡◌, ◌+◌, ◌≤◌, length, vec_len, vec_capacity}
use Rattle.std.specs.Vec.Iter.{into_iter_items, into_iter_len}
use Rattle.area_emptying.specs.Rows.{AreSegments}
use Rattle.area_emptying.proofs.owned.own_segments.Given as goal

abbrev pub invariant-loop-cell : goal.invariant-loop-cell
invariant-loop-cell g l =
    (vec_len l.segments + length (into_iter_items l.cell-iterator) ≡ g.V.Numbers.GeometryName.geometry.segments) × (into_iter_len l.cell-iterator ≡ length (into_iter_items l.cell-iterator))
    × AreSegments g.V.Numbers.GeometryName.geometry g.V.Books.BooksName.books.book g.V.Words.WordsName.words l.segments.items × (g.V.Numbers.GeometryName.geometry.segments ≤ vec_capacity l.segments)
