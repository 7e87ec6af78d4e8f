-- A log's slip stands for the segment of its number, which is put back as it was after each look: so all logs looked at
-- so far are open in the segments of the start.
use Rattle.std.proofs.Common.{◌≡◌, ◌<◌, length, map, get_or, vec_len, ap, sym, ◌∙◌, arith}
use Rattle.std.specs.Prelude.{IfSome}
use Rattle.sit.specs.Registered.{Registered}
use Rattle.checkpoint_image.specs.Cells.{IsOpenAt}
use Rattle.checkpoint_sync.specs.LocksHeld.{open_in}
use Rattle.checkpoint_sync.proofs.Turns.{log_within, slip_is, put_back, open_more, is_open, some_open, none_open}
use Rattle.checkpoint_sync.proofs.opened.show_open.Goals as goal
use Rattle.checkpoint_sync.proofs.opened.show_open.Goals.{in-Some, in-None}

pub show_open-requires-clause-words : goal.show_open-requires-clause-words
show_open-requires-clause-words g c =
    let len = c.len-k-end.ensures in
    let test = c.loop-k-test.true in
    let low : c.loop-k.k < length c.args.logs.now.items = omega arith in
    c.requires.words
    ∙ (slip_is g.V.Numbers.GeometryName.geometry g.V.Books.BooksName.books.book g.V.Words.WordsName.words c.args.segments.now.items c.loop-k.segments.items c.args.logs.now.items c.loop-k.logs.items
    c.requires.segments c.requires.logs c.requires.every c.loop-k.invariant.segments c.loop-k.invariant.logs
    c.loop-k.k c.in-Some.number c.index.result.now c.index.result.now c.index_mut.result.now c.open_segment.result low c.index.ensures c.index.ensures c.index_mut.ensures.value c.open_segment.ensures c.in-Some.is).0

pub show_open-requires-clause-slip : goal.show_open-requires-clause-slip
show_open-requires-clause-slip g c =
    let len = c.len-k-end.ensures in
    let test = c.loop-k-test.true in
    let low : c.loop-k.k < length c.args.logs.now.items = omega arith in
    (slip_is g.V.Numbers.GeometryName.geometry g.V.Books.BooksName.books.book g.V.Words.WordsName.words c.args.segments.now.items c.loop-k.segments.items c.args.logs.now.items c.loop-k.logs.items
    c.requires.segments c.requires.logs c.requires.every c.loop-k.invariant.segments c.loop-k.invariant.logs
    c.loop-k.k c.in-Some.number c.index.result.now c.index_mut-in-Some.result.now c.index_mut.result.now c.open_segment.result low c.index.ensures c.index_mut-in-Some.ensures.value c.index_mut.ensures.value c.open_segment.ensures c.in-Some.is).1

pub loop-k-preserved : goal.loop-k-preserved
loop-k-preserved g c =
    let old = c.args.segments.now.items in
    let logs = c.args.logs.now.items in
    let k = c.loop-k.k in
    let log = c.index.result.now in
    let len = c.len-k-end.ensures in
    let test = c.loop-k-test.true in
    let low : k < length logs = omega arith in
    let here : log ≡ get_or logs k log = c.index.ensures ∙ ap (λ l. get_or l k log) c.loop-k.invariant.logs in
    let before = c.loop-k.invariant.there in
    elim c.match-open_segment.branch [
      | in-Some w ↦
          let n = w.in-Some.number in
          let r = w.index_mut.result.now in
          let within = log_within g.V.Numbers.GeometryName.geometry g.V.Books.BooksName.books.book g.V.Words.WordsName.words old c.loop-k.segments.items logs c.loop-k.logs.items
          c.requires.segments c.requires.logs c.requires.every c.loop-k.invariant.segments c.loop-k.invariant.logs k n log c.open_segment.result low c.index.ensures c.open_segment.ensures w.in-Some.is in
          record {
            segments = ap (λ v. v.items) w.segments-is ∙ put_back c.loop-k.segments.items old n r w.show_open.new.self c.loop-k.invariant.segments w.index_mut.ensures.value w.show_open.ensures.same;
            logs = ap (λ v. v.items) w.logs-is ∙ put_back c.loop-k.logs.items logs k w.index_mut-in-Some.result.now w.show_open.new.log c.loop-k.invariant.logs w.index_mut-in-Some.ensures.value w.show_open.ensures.log;
            count = ap (λ v. vec_len v) w.logs-is ∙ c.loop-k.invariant.count;
            there = open_more (λ o. IfSome o (IsOpenAt (map (λ (x : Registered). x.segment) old))) logs k log before low here
                (some_open (map (λ (x : Registered). x.segment) old) (open_in log) n (sym c.open_segment.ensures ∙ w.in-Some.is)
                (is_open old c.loop-k.segments.items n r c.loop-k.invariant.segments within.0 w.index_mut.ensures.value w.show_open.ensures.state));
          }
      | in-None w ↦ record {
        segments = ap (λ v. v.items) w.segments-is ∙ c.loop-k.invariant.segments;
        logs = ap (λ v. v.items) w.logs-is ∙ c.loop-k.invariant.logs;
        count = ap (λ v. vec_len v) w.logs-is ∙ c.loop-k.invariant.count;
        there = open_more (λ o. IfSome o (IsOpenAt (map (λ (x : Registered). x.segment) old))) logs k log before low here
            (none_open (map (λ (x : Registered). x.segment) old) (open_in log) (sym c.open_segment.ensures ∙ w.in-None.is));
      }
    ]
