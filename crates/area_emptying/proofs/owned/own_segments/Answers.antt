use Rattle.std.proofs.Common.{List, length, ap, sym, subst, ◌∙◌, arith, rules}
use Rattle.geometry.proofs.Indexing.{each_push}
use Rattle.sit.specs.Registered.{Registered}
use Rattle.area.specs.Cells.{IsSegmentOf}
use Rattle.area_emptying.specs.Rows.{AreSegments}
use Rattle.area_emptying.proofs.owned.own_segments.Goals as goal

pub loop-cell-preserved : goal.loop-cell-preserved
loop-cell-preserved g c =
    let geometry = g.V.Numbers.GeometryName.geometry in
    let book = g.V.Books.BooksName.books.book in
    let table = g.V.Words.WordsName.words in
    let at = c.loop-cell in
    let i = at.invariant in
    let short = ap (λ l. length l) c.in-Some.ensures.steps.0 in
    let gone = c.in-Some.ensures.steps.1 in
    let more = c.push_reserved.ensures.len in
    let old = at.segments.ok.0 in
    let number = c.len-number.ensures in
    let here = subst (λ n. IsSegmentOf geometry book table n c.own_segment.result) (number ∙ old) c.own_segment.ensures in (
      omega arith,
      omega arith,
      subst (AreSegments geometry book table) (sym c.push_reserved.ensures.items) (each_push (IsSegmentOf geometry book table) at.segments.items c.own_segment.result i.2 here),
      (let room = c.push_reserved.ensures.capacity in omega (arith, i.3)),
    )
