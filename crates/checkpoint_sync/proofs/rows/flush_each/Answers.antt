use Rattle.std.proofs.Common.{◌≡◌, ◌+◌, List, length, ap, sym, subst, ◌∙◌, arith}
use Rattle.checkpoint_sync.specs.WrittenFiles.{AreWritten}
use Rattle.checkpoint_sync.proofs.Seen.{one_more}
use Rattle.checkpoint_sync.proofs.rows.flush_each.Goals as goal

pub loop-index-preserved : goal.loop-index-preserved
loop-index-preserved g c =
    let book = g.V.Books.BooksName.books.book in
    let geometry = g.V.Numbers.GeometryName.geometry in
    let at = c.loop-index in
    let i = at.invariant in
    let more = c.push_reserved.ensures.len in
    let now = c.in_ok-written.ensures in
    let count = i.0 in
    let number : c.in_ok-written.written.number ≡ length at.held.items + 1 = now.number ∙ (c.lock_numbered-cell.ensures ∙ ap (λ n. n + 1) (sym count)) in (
      (let long = ap (λ xs. length xs) c.push_reserved.ensures.items in omega (arith, long, count)),
      subst (AreWritten book geometry) (sym c.push_reserved.ensures.items) (one_more book geometry at.held.items c.in_ok-written.written i.1 number now.written),
      now.hand ∙ i.2,
      now.buffer ∙ i.3,
      (let room = c.push_reserved.ensures.capacity in omega (arith, i.4)),
    )
