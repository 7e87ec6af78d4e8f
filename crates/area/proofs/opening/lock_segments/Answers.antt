use Rattle.std.proofs.Common.{◌≡◌, ◌+◌, ◌-◌, ◌∷◌, [], length, length-append, ap, ◌∙◌, subst, arith, rules}
use Rattle.geometry.proofs.Indexing.{each_front, each_last}
use Rattle.rights_books.specs.PartRow.{name_of}
use Rattle.area.specs.Cells.{IsSegmentOf}
use Rattle.area.specs.Opening.{SegmentsFall, PartsFall}
use Rattle.area.proofs.opening.lock_segments.Goals as goal

pub new-requires-clause-segment : goal.new-requires-clause-segment
new-requires-clause-segment g c =
    let geometry = g.V.Numbers.GeometryName.geometry in
    let book = g.V.Books.BooksName.books.book in
    let table = g.V.Words.WordsName.words in
    let i = c.states.invariant in
    let fall = subst (SegmentsFall geometry book table geometry.segments) c.in-Some.ensures.items i.0 in
    let here = each_last (λ k r. IsSegmentOf geometry book table (geometry.segments - 1 - k) r) c.pop.new.self.items c.in-Some.state fall in
    let count = i.1 in
    let less = c.in-Some.ensures.len in
    let long = c.pop.new.self.ok.0 in
    let at = c.len-number.ensures in
    let number : geometry.segments - 1 - length c.pop.new.self.items ≡ c.len-number.result = omega arith in
    subst (λ n. IsSegmentOf geometry book table n c.in-Some.state) number here

-- the account that is taken is of the segment that comes into its lock
pub new-requires-clause-row : goal.new-requires-clause-row
new-requires-clause-row g c =
    let geometry = g.V.Numbers.GeometryName.geometry in
    let rows = g.V.Books.BooksName.rows in
    let i = c.states.invariant in
    let fall = subst (PartsFall rows (geometry.segments + 16)) c.take_row-row.ensures i.3 in
    let here = each_last (λ k v. name_of v ≡ record { book = rows; number = geometry.segments + 16 - 1 - k }) c.take_row-row.new.rows.items c.take_row-row.result fall in
    let count = i.1 in
    let many = i.4 in
    let less = c.in-Some.ensures.len in
    let long = ap length c.take_row-row.ensures ∙ length-append c.take_row-row.new.rows.items (c.take_row-row.result ∷ []) in
    let at = c.len-number.ensures in
    let number : geometry.segments + 16 - 1 - length c.take_row-row.new.rows.items ≡ c.len-number.result = omega arith in
    subst (λ n. name_of c.take_row-row.result ≡ record { book = rows; number = n }) number here

pub states-preserved : goal.states-preserved
states-preserved g c =
    let geometry = g.V.Numbers.GeometryName.geometry in
    let book = g.V.Books.BooksName.books.book in
    let table = g.V.Words.WordsName.words in
    let rows = g.V.Books.BooksName.rows in
    let i = c.states.invariant in
    let fall = subst (SegmentsFall geometry book table geometry.segments) c.in-Some.ensures.items i.0 in
    let fall_rows = subst (PartsFall rows (geometry.segments + 16)) c.take_row-row.ensures i.3 in
    let long = ap length c.take_row-row.ensures ∙ length-append c.take_row-row.new.rows.items (c.take_row-row.result ∷ []) in (
      each_front (λ k r. IsSegmentOf geometry book table (geometry.segments - 1 - k) r) c.pop.new.self.items (c.in-Some.state ∷ []) fall,
      search rules,
      (let room = i.2 in let same = c.push_reserved.ensures.capacity in omega arith),
      each_front (λ k v. name_of v ≡ record { book = rows; number = geometry.segments + 16 - 1 - k }) c.take_row-row.new.rows.items (c.take_row-row.result ∷ []) fall_rows,
      (let many = i.4 in let less = c.in-Some.ensures.len in omega arith),
    )
