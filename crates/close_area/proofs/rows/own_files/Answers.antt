use Rattle.std.proofs.Common.{◌≡◌, ◌+◌, List, length, ap, sym, subst, ◌∙◌, arith}
use Rattle.checkpoint_sync.specs.WrittenFiles.{AreWritten}
use Rattle.checkpoint_sync.proofs.Seen.{one_more}
use Rattle.close_area.proofs.rows.own_files.Goals as goal

pub files-preserved : goal.files-preserved
files-preserved g c =
    let book = g.V.Books.BooksName.books.book in
    let geometry = g.V.Numbers.GeometryName.geometry in
    let at = c.files in
    let i = at.invariant in
    let more = c.push_reserved.ensures.len in
    let less = c.in-Some.ensures.len in
    let now = c.in-Ok.ensures in
    let long = at.files.ok.0 in
    let place = c.len.ensures in
    let number : c.in-Ok.file.number ≡ length at.files.items + 1 = now.number ∙ (c.own_file-cell.ensures ∙ (omega arith)) in (
      omega arith,
      subst (AreWritten book geometry) (sym c.push_reserved.ensures.items) (one_more book geometry at.files.items c.in-Ok.file i.1 number now.written),
      now.hand ∙ i.2,
      now.buffer ∙ i.3,
      (let room = c.push_reserved.ensures.capacity in omega (arith, i.4)),
      (let room = c.in-Some.ensures.capacity in omega (arith, i.5)),
    )
